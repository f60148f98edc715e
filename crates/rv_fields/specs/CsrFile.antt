-- A file of CSRs: what its registers hold, what is read from them and written to them, and who may do so.
use Rattle.std.specs.Prelude.{ℕ, ◌==◌, List, [], ◌∷◌, drop, nat_le, Bool, false, not, ◌&&◌, ◌||◌, bit_and, bit_or, if◌then◌else◌}
use Rattle.rv_fields.specs.declared.csr.Csr.{Csr}
use Rattle.rv_fields.specs.declared.csr.Csr.TheVariants.{Sstatus, Stvec, Sscratch, Sepc, Scause, Stval, Satp, Mstatus, Medeleg, Mideleg, Mie, Mtvec, Mscratch, Mepc, Mcause, Mtval, Pmpcfg0, Pmpaddr0, Mhartid}
use Rattle.rv_fields.specs.declared.mode.Mode.{Mode}
use Rattle.rv_fields.specs.declared.mode.Mode.TheVariants.{S}
use Rattle.rv_fields.specs.Immediate.{bits_of}
use Rattle.rv_fields.specs.Csr.{csr_row, csr_number, all_csrs, no_bits}
use Rattle.rv_fields.specs.Field.{masked, field_of, with_field}
use Rattle.rv_fields.specs.Status.{mpp, mprv, tvm, satp_mode, mode_number}
use Rattle.rv_fields.specs.Status as status

-- What each register holds. sstatus holds nothing of its own: it is a view of mstatus.
pub record CsrFile : Type 0 where
  pub stvec : ℕ
  pub sscratch : ℕ
  pub sepc : ℕ
  pub scause : ℕ
  pub stval : ℕ
  pub satp : ℕ
  pub mstatus : ℕ
  pub medeleg : ℕ
  pub mideleg : ℕ
  pub mie : ℕ
  pub mtvec : ℕ
  pub mscratch : ℕ
  pub mepc : ℕ
  pub mcause : ℕ
  pub mtval : ℕ
  pub pmpcfg0 : ℕ
  pub pmpaddr0 : ℕ
  pub mhartid : ℕ

-- the register that holds what a register shows
abbrev pub source : Csr → Csr
source Sstatus = Mstatus
source csr = csr

-- what is held for a register: for sstatus that is mstatus
abbrev pub held : CsrFile → Csr → ℕ
held file Sstatus = file.mstatus
held file Stvec = file.stvec
held file Sscratch = file.sscratch
held file Sepc = file.sepc
held file Scause = file.scause
held file Stval = file.stval
held file Satp = file.satp
held file Mstatus = file.mstatus
held file Medeleg = file.medeleg
held file Mideleg = file.mideleg
held file Mie = file.mie
held file Mtvec = file.mtvec
held file Mscratch = file.mscratch
held file Mepc = file.mepc
held file Mcause = file.mcause
held file Mtval = file.mtval
held file Pmpcfg0 = file.pmpcfg0
held file Pmpaddr0 = file.pmpaddr0
held file Mhartid = file.mhartid

-- the file in which this value is held for a register
abbrev pub with_held : CsrFile → Csr → ℕ → CsrFile
with_held file Sstatus value = record file { mstatus = value }
with_held file Stvec value = record file { stvec = value }
with_held file Sscratch value = record file { sscratch = value }
with_held file Sepc value = record file { sepc = value }
with_held file Scause value = record file { scause = value }
with_held file Stval value = record file { stval = value }
with_held file Satp value = record file { satp = value }
with_held file Mstatus value = record file { mstatus = value }
with_held file Medeleg value = record file { medeleg = value }
with_held file Mideleg value = record file { mideleg = value }
with_held file Mie value = record file { mie = value }
with_held file Mtvec value = record file { mtvec = value }
with_held file Mscratch value = record file { mscratch = value }
with_held file Mepc value = record file { mepc = value }
with_held file Mcause value = record file { mcause = value }
with_held file Mtval value = record file { mtval = value }
with_held file Pmpcfg0 value = record file { pmpcfg0 = value }
with_held file Pmpaddr0 value = record file { pmpaddr0 = value }
with_held file Mhartid value = record file { mhartid = value }

-- What a register shows of what is held for it: sstatus the bits that a write to sstatus changes, every other
-- register all.
abbrev pub shown : Csr → ℕ → ℕ
shown Sstatus status = bit_and status (csr_row Sstatus).writable
shown csr value = value

-- what is read from a register
abbrev pub reading : CsrFile → Csr → ℕ
reading file csr = bit_or (shown csr (held file csr)) (csr_row csr).constant

-- The bits that a write of the value changes. A 2 is no mode and leaves MPP, and satp takes no kind of
-- translation but none and Sv39: a write of another changes nothing.
abbrev pub changed_bits : Csr → ℕ → ℕ
changed_bits Mstatus value =
    if field_of mpp value == 2 then with_field mpp (csr_row Mstatus).writable 0 else (csr_row Mstatus).writable
changed_bits Satp value =
    if field_of satp_mode value == 0 || field_of satp_mode value == 8 then (csr_row Satp).writable else no_bits
changed_bits csr value = (csr_row csr).writable

-- the file after a write of the value to a register
unfoldable pub written : CsrFile → Csr → ℕ → CsrFile
written file csr value = with_held file csr (masked (changed_bits csr value) (held file csr) value)

-- the least mode that may use a register, as its number says
abbrev pub least_mode : Csr → ℕ
least_mode csr = bits_of (csr_number csr) 8 2

-- the register's number says that it can't be written
abbrev pub is_read_only : Csr → Bool
is_read_only csr = bits_of (csr_number csr) 10 2 == 3

-- TVM keeps satp from mode S
abbrev pub is_kept_back : CsrFile → Csr → Mode → Bool
is_kept_back file Satp S = field_of tvm file.mstatus == 1
is_kept_back file csr mode = false

abbrev pub may_read : CsrFile → Csr → Mode → Bool
may_read file csr mode = nat_le (least_mode csr) (mode_number mode) && not (is_kept_back file csr mode)

abbrev pub may_write : CsrFile → Csr → Mode → Bool
may_write file csr mode = may_read file csr mode && not (is_read_only csr)

-- the file that holds 0 for each register
abbrev pub zero_file : CsrFile
zero_file = record {
  stvec = 0;
  sscratch = 0;
  sepc = 0;
  scause = 0;
  stval = 0;
  satp = 0;
  mstatus = 0;
  medeleg = 0;
  mideleg = 0;
  mie = 0;
  mtvec = 0;
  mscratch = 0;
  mepc = 0;
  mcause = 0;
  mtval = 0;
  pmpcfg0 = 0;
  pmpaddr0 = 0;
  mhartid = 0;
}

-- the file after a write of a value to each of the registers, one after another
abbrev pub written_each : CsrFile → List Csr → List ℕ → CsrFile
written_each file [] values = file
written_each file (csr ∷ csrs) [] = file
written_each file (csr ∷ csrs) (value ∷ values) = written_each (written file csr value) csrs values

-- The file of a hart at reset: what writes of raw values, one for each register in the table's order, leave of 0,
-- but with MIE and MPRV 0 and with the hart's number. The first raw value, that of sstatus, is passed over.
unfoldable pub reset : ℕ → List ℕ → CsrFile
reset hart raw =
    let file = written_each zero_file (drop 1 all_csrs) (drop 1 raw) in
    record file { mhartid = hart; mstatus = with_field mprv (with_field status.mie file.mstatus 0) 0 }
