-- Traps, and the returns from them.
use Rattle.std.specs.Prelude.{ℕ, Bool, ◌==◌, if◌then◌else◌}
use Rattle.std.specs.Int.{bit_at}
use Rattle.rv_fields.specs.declared.mode.Mode.{Mode}
use Rattle.rv_fields.specs.declared.mode.Mode.TheVariants.{U, S, M}
use Rattle.rv_fields.specs.declared.csr.Csr.TheVariants.{Mepc, Sepc}
use Rattle.rv_fields.specs.Csr.{csr_row}
use Rattle.rv_fields.specs.Field.{Field, field_of, masked, with_field}
use Rattle.rv_fields.specs.Status.{sie, mie, spie, mpie, spp, mpp, mprv, mode_number, mode_of}
use Rattle.rv_fields.specs.CsrFile.{CsrFile}

-- medeleg has the bit of the cause
abbrev pub is_delegated : CsrFile → ℕ → Bool
is_delegated file cause = bit_at file.medeleg cause == 1

-- the mode that handles a trap: S for a cause that is delegated, but not from mode M; else M
abbrev pub trap_mode : CsrFile → Mode → ℕ → Mode
trap_mode file M cause = M
trap_mode file mode cause = if is_delegated file cause then S else M

-- The fields of mstatus that keep what was before a trap to a mode: whether that mode's interrupts were enabled,
-- and the mode.
pub record Stack : Type 0 where
  pub enable : Field
  pub enable_before : Field
  pub mode_before : Field

abbrev pub m_stack : Stack
m_stack = record { enable = mie; enable_before = mpie; mode_before = mpp }

abbrev pub s_stack : Stack
s_stack = record { enable = sie; enable_before = spie; mode_before = spp }

-- mstatus after a trap from the mode
unfoldable pub pushed : Stack → ℕ → Mode → ℕ
pushed stack status mode =
    let kept = with_field stack.enable_before status (field_of stack.enable status) in
    with_field stack.mode_before (with_field stack.enable kept 0) (mode_number mode)

-- mstatus after a return
unfoldable pub popped : Stack → ℕ → ℕ
popped stack status =
    let back = with_field stack.enable status (field_of stack.enable_before status) in
    with_field stack.mode_before (with_field stack.enable_before back 1) (mode_number U)

-- The file after a trap, from the mode in which it came, to the mode that handles it. The pc gets through the bits of
-- sepc or mepc that a write changes.
abbrev pub trapped_to : Mode → CsrFile → Mode → ℕ → ℕ → ℕ → CsrFile
trapped_to S file mode cause epc tval =
    record file { sepc = masked (csr_row Sepc).writable file.sepc epc; scause = cause; stval = tval; mstatus = pushed s_stack file.mstatus mode }
trapped_to handler file mode cause epc tval =
    record file { mepc = masked (csr_row Mepc).writable file.mepc epc; mcause = cause; mtval = tval; mstatus = pushed m_stack file.mstatus mode }

abbrev pub trapped : CsrFile → Mode → ℕ → ℕ → ℕ → CsrFile
trapped file mode cause epc tval = trapped_to (trap_mode file mode cause) file mode cause epc tval

-- the address of the mode's handler
abbrev pub handler_of : CsrFile → Mode → ℕ
handler_of file S = file.stvec
handler_of file handler = file.mtvec

-- mret: the mode that it returns to, and the file after it
abbrev pub mret_mode : CsrFile → Mode
mret_mode file = mode_of (field_of mpp file.mstatus)

-- MPRV stays where the mode that mret returns to is M
abbrev pub mret_status : Mode → ℕ → ℕ
mret_status M status = popped m_stack status
mret_status mode status = with_field mprv (popped m_stack status) 0

abbrev pub mret_done : CsrFile → CsrFile
mret_done file = record file { mstatus = mret_status (mret_mode file) file.mstatus }

-- sret: the mode that it returns to, and the file after it
abbrev pub sret_mode : CsrFile → Mode
sret_mode file = mode_of (field_of spp file.mstatus)

abbrev pub sret_done : CsrFile → CsrFile
sret_done file = record file { mstatus = with_field mprv (popped s_stack file.mstatus) 0 }
