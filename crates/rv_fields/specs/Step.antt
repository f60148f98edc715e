-- One step of a hart over what is told of memory, by the tables of the RISC-V manuals.
use Rattle.std.specs.Prelude.{ℕ, zero, suc, ◌+◌, ◌-◌, ◌*◌, ◌/◌, ◌%◌, ◌^◌, pos, ◌+ℤ◌, ◌==◌, List, [], Bool, true, false, not, ◌&&◌, bit_and, bit_or, Option, Some, None, option_map, if◌then◌else◌}
use Rattle.rv_fields.specs.declared.access.Access.{Access}
use Rattle.rv_fields.specs.declared.access.Access.TheVariants.{Fetch}
use Rattle.rv_fields.specs.declared.access.Access.TheVariants as accesses
use Rattle.rv_fields.specs.declared.access.AccessKind.{AccessKind}
use Rattle.rv_fields.specs.declared.access.AccessKind.TheVariants.{Load, Store, Lr, Sc, Amo}
use Rattle.rv_fields.specs.declared.class.Class.{Class}
use Rattle.rv_fields.specs.declared.class.Class.TheVariants.{Computes, Branches, Jumps, JumpsByRegister, Accesses, ChangesCsr, Fences, FencesTranslation, CallsEnvironment, Breaks, ReturnsFromM, ReturnsFromS}
use Rattle.rv_fields.specs.declared.class.CsrChange.{CsrChange}
use Rattle.rv_fields.specs.declared.class.CsrChange.TheVariants.{Swap, Set, Clear}
use Rattle.rv_fields.specs.declared.class.Extension.{Extension}
use Rattle.rv_fields.specs.declared.class.Extension.TheVariants.{Sign, Zeros}
use Rattle.rv_fields.specs.declared.csr.Csr.{Csr}
use Rattle.rv_fields.specs.declared.mode.Mode.{Mode}
use Rattle.rv_fields.specs.declared.mode.Mode.TheVariants.{U, S, M}
use Rattle.rv_fields.specs.declared.row_table.Form.{Form}
use Rattle.rv_fields.specs.declared.row_table.Form.TheVariants.{K}
use Rattle.rv_fields.specs.declared.row_table.Ins.{Ins}
use Rattle.rv_fields.specs.declared.row_table.Ops.{Ops}
use Rattle.rv_fields.specs.Attempt.{◌>>=◌}
use Rattle.rv_fields.specs.Class.{class_of}
use Rattle.rv_fields.specs.Csr.{csr_at}
use Rattle.rv_fields.specs.CsrFile.{CsrFile, may_read, may_write, reading, written}
use Rattle.rv_fields.specs.Decode.{Decoded, decoded, rs1_read}
use Rattle.rv_fields.specs.Effect.{Effect, Accessed, Entry}
use Rattle.rv_fields.specs.Field.{Field, field_of}
use Rattle.rv_fields.specs.Hart.{Hart, Registers, Reserved, updated}
use Rattle.rv_fields.specs.Immediate.{modulo, wrapped}
use Rattle.rv_fields.specs.Meaning.{amo_of, computed, is_taken, sign_extended}
use Rattle.rv_fields.specs.Memory.{Seen, Links, told, in_ram, granule}
use Rattle.rv_fields.specs.RowTable.{form_of}
use Rattle.rv_fields.specs.Status.{mode_number, mode_of, mpp, mprv, sum, mxr, tvm, tsr}
use Rattle.rv_fields.specs.Sv39.{Rights, Translated, Walked, reached, faults, translate, entries_in, access_fault, misaligned}
use Rattle.rv_fields.specs.Trap.{handler_of, mret_done, mret_mode, sret_done, sret_mode, trap_mode, trapped}

-- ---- outcomes: what an instruction leaves

-- Of one that retires: the value of rd, if it gives one; the address of the next instruction; the mode, the CSRs and the
-- reservation; its access to memory, and the page table entries by which that is translated.
pub record Done : Type 0 where
  pub value : Option ℕ
  pub next : ℕ
  pub mode : Mode
  pub csrs : CsrFile
  pub reserved : Option Reserved
  pub access : Option Accessed
  pub trail : List Entry

pub data Outcome : Type 0 where
  retires : Done → Outcome
  -- it raises a trap: the cause, tval, and the entries by which its access is translated
  raises : ℕ → ℕ → List Entry → Outcome

-- the address behind an instruction
abbrev pub behind : ℕ → ℕ
behind pc = (pc + 4) % 2 ^ 64

-- it gives rd a value, or none, and goes on at this address
abbrev pub goes : Hart → Option ℕ → ℕ → Outcome
goes hart value next = retires (record {
  value = value;
  next = next;
  mode = hart.mode;
  csrs = hart.csrs;
  reserved = hart.reserved;
  access = None;
  trail = [];
})

abbrev pub traps : ℕ → ℕ → Outcome
traps cause tval = raises cause tval []

-- an instruction that the word is not, for this hart
abbrev pub illegal : ℕ → Outcome
illegal word = traps 2 word

-- a jump to the target, which has to be a multiple of 4
abbrev pub jump : Hart → Option ℕ → ℕ → Outcome
jump hart value target = if target % 4 == 0 then goes hart value target else traps 0 target

abbrev pub branch : Hart → Bool → ℕ → Outcome
branch hart taken target = if taken then jump hart None target else goes hart None (behind hart.pc)

-- ---- accesses to memory

-- LR counts as a load, SC and AMO as stores
abbrev pub right_of : AccessKind → Access
right_of Load = accesses.Load
right_of Lr = accesses.Load
right_of Store = accesses.Store
right_of Sc = accesses.Store
right_of Amo = accesses.Store

-- the rights of a hart in a mode
abbrev pub rights_of : Hart → Mode → Rights
rights_of hart mode = record { mode = mode; sum = field_of sum hart.csrs.mstatus == 1; mxr = field_of mxr hart.csrs.mstatus == 1 }

-- the mode whose rights data accesses have: in mode M with MPRV = 1 the one in MPP
abbrev pub data_mode : Mode → ℕ → Mode
data_mode M status = if field_of mprv status == 1 then mode_of (field_of mpp status) else M
data_mode S status = S
data_mode U status = U

-- an access: its instruction with rs2, its kind and size, its addresses, and the entries by which it is translated
pub record Aim : Type 0 where
  pub ins : Ins
  pub rs2 : ℕ
  pub kind : AccessKind
  pub size : ℕ
  pub extended : Extension
  pub va : ℕ
  pub pa : ℕ
  pub trail : List Entry

-- the number that is read, as rd gets it
abbrev pub extended_by : Extension → ℕ → ℕ → ℕ
extended_by Sign size n = sign_extended (8 * size) n
extended_by Zeros size n = n

-- what is left of rs2 in so many bytes
abbrev pub low_part : ℕ → ℕ → ℕ
low_part size value = value % 2 ^ (8 * size)

abbrev pub accessed : Aim → Option ℕ → Option ℕ → Accessed
accessed aim read wrote = record { kind = aim.kind; va = aim.va; pa = aim.pa; size = aim.size; read = read; wrote = wrote }

-- it retires behind its access
abbrev pub accesses_done : Hart → Aim → Option ℕ → Option Reserved → Option Accessed → Outcome
accesses_done hart aim value reserved access = retires (record {
  value = value;
  next = behind hart.pc;
  mode = hart.mode;
  csrs = hart.csrs;
  reserved = reserved;
  access = access;
  trail = aim.trail;
})

-- there is no RAM at its physical address
abbrev pub lacks_ram : Aim → Outcome
lacks_ram aim = raises (access_fault (right_of aim.kind)) aim.va aim.trail

abbrev pub loaded : Hart → Aim → Option ℕ → Outcome
loaded hart aim None = lacks_ram aim
loaded hart aim (Some n) = accesses_done hart aim (Some (extended_by aim.extended aim.size n)) hart.reserved (Some (accessed aim (Some n) None))

-- LR leaves a reservation of its address and size
abbrev pub reserved_by : Aim → Option Reserved
reserved_by aim = Some (record { pa = aim.pa; size = aim.size })

abbrev pub load_reserved : Hart → Aim → Option ℕ → Outcome
load_reserved hart aim None = lacks_ram aim
load_reserved hart aim (Some n) =
    accesses_done hart aim (Some (extended_by aim.extended aim.size n)) (reserved_by aim) (Some (accessed aim (Some n) None))

abbrev pub updated_memory : Hart → Aim → Option ℕ → Outcome
updated_memory hart aim None = lacks_ram aim
updated_memory hart aim (Some n) =
    accesses_done hart aim (Some (extended_by aim.extended aim.size n)) hart.reserved (Some (accessed aim (Some n) (Some (amo_of aim.ins n aim.rs2))))

-- a store asks for RAM, and for none of its bytes
abbrev pub store : Hart → Aim → Outcome
store hart aim =
    if in_ram aim.pa aim.size then accesses_done hart aim None hart.reserved (Some (accessed aim None (Some (low_part aim.size aim.rs2))))
    else lacks_ram aim

-- SC stores and gives 0 where it succeeds; else it gives 1 and accesses nothing. It ends the reservation in both cases.
abbrev pub store_if : Hart → Aim → Bool → Outcome
store_if hart aim true =
    if in_ram aim.pa aim.size then accesses_done hart aim (Some 0) None (Some (accessed aim None (Some (low_part aim.size aim.rs2))))
    else lacks_ram aim
store_if hart aim false = accesses_done hart aim (Some 1) None None

-- SC succeeds where the reservation has its address and size, and the hart's link to the granule stands
abbrev pub succeeds : Links → ℕ → Option Reserved → Aim → Option Bool
succeeds links hart None aim = Some false
succeeds links hart (Some r) aim = if r.pa == aim.pa && r.size == aim.size then links hart (granule aim.pa) else Some false

-- what the access does, by its kind; none where something that it reads isn't told
abbrev pub performed : AccessKind → Seen → Hart → Aim → Option Outcome
performed Load seen hart aim = option_map (loaded hart aim) (told seen.byte aim.pa aim.size)
performed Lr seen hart aim = option_map (load_reserved hart aim) (told seen.byte aim.pa aim.size)
performed Amo seen hart aim = option_map (updated_memory hart aim) (told seen.byte aim.pa aim.size)
performed Store seen hart aim = Some (store hart aim)
performed Sc seen hart aim = option_map (store_if hart aim) (succeeds seen.link hart.number hart.reserved aim)

-- an instruction that accesses memory at a virtual address, before that is translated
pub record Target : Type 0 where
  pub ins : Ins
  pub rs2 : ℕ
  pub kind : AccessKind
  pub size : ℕ
  pub extended : Extension
  pub va : ℕ

abbrev pub aim_at : Target → ℕ → List Entry → Aim
aim_at t pa trail = record {
  ins = t.ins;
  rs2 = t.rs2;
  kind = t.kind;
  size = t.size;
  extended = t.extended;
  va = t.va;
  pa = pa;
  trail = trail;
}

abbrev pub performed_at : Seen → Hart → Target → List Entry → Translated → Option Outcome
performed_at seen hart t trail (reached pa) = performed t.kind seen hart (aim_at t pa trail)
performed_at seen hart t trail (faults cause) = Some (raises cause t.va trail)

-- how a data address is translated
abbrev pub data_walked : Seen → Hart → Access → ℕ → Option Walked
data_walked seen hart access va =
    translate (entries_in seen.byte) hart.csrs.satp (rights_of hart (data_mode hart.mode hart.csrs.mstatus)) access va

-- a misaligned address isn't translated
abbrev pub access : Seen → Hart → Target → Option Outcome
access seen hart t =
    if t.va % t.size == 0 then data_walked seen hart (right_of t.kind) t.va >>= (λ w. performed_at seen hart t w.trail w.result)
    else Some (traps (misaligned (right_of t.kind)) t.va)

-- ---- CSRs

-- the operand: rs1, or the number that form K has in its place
abbrev pub csr_operand : Form → Ops → ℕ → ℕ
csr_operand K ops rs1 = ops.rs1
csr_operand form ops rs1 = rs1

abbrev pub changed_to : CsrChange → ℕ → ℕ → ℕ
changed_to Swap old operand = operand
changed_to Set old operand = bit_or old operand
changed_to Clear old operand = bit_and old (2 ^ 64 - 1 - operand)

-- csrrs and csrrc, and their forms with a number, don't write where 0 stands in the place of rs1
abbrev pub writes : CsrChange → Ops → Bool
writes Swap ops = true
writes Set ops = not (ops.rs1 == 0)
writes Clear ops = not (ops.rs1 == 0)

-- it gives rd the value, and leaves these CSRs
abbrev pub csrs_done : Hart → ℕ → CsrFile → Outcome
csrs_done hart value csrs = goes (record hart { csrs = csrs }) (Some value) (behind hart.pc)

abbrev pub csr_written : Hart → CsrChange → ℕ → ℕ → Csr → Outcome
csr_written hart change operand word csr =
    if may_write hart.csrs csr hart.mode
    then csrs_done hart (reading hart.csrs csr) (written hart.csrs csr (changed_to change (reading hart.csrs csr) operand))
    else illegal word

abbrev pub csr_read : Hart → ℕ → Csr → Outcome
csr_read hart word csr = if may_read hart.csrs csr hart.mode then csrs_done hart (reading hart.csrs csr) hart.csrs else illegal word

-- the CSR of the number in the immediate's place; where there is none, the instruction is illegal
abbrev pub csr_changed : Hart → CsrChange → Ops → ℕ → ℕ → Option Csr → Outcome
csr_changed hart change ops operand word None = illegal word
csr_changed hart change ops operand word (Some csr) = if writes change ops then csr_written hart change operand word csr else csr_read hart word csr

abbrev pub csr_named_by : Ops → Option Csr
csr_named_by ops = csr_at (modulo (2 ^ 12) ops.imm)

-- ---- changes of mode

abbrev pub returned : Hart → Mode → ℕ → CsrFile → Outcome
returned hart mode pc csrs = goes (record hart { mode = mode; csrs = csrs }) None pc

-- kept from mode U always, and from mode S where the field of mstatus is 1
abbrev pub is_kept_from : Mode → Field → ℕ → Bool
is_kept_from M field status = false
is_kept_from S field status = field_of field status == 1
is_kept_from U field status = true

abbrev pub returned_from_m : Hart → ℕ → Mode → Outcome
returned_from_m hart word M = returned hart (mret_mode hart.csrs) hart.csrs.mepc (mret_done hart.csrs)
returned_from_m hart word S = illegal word
returned_from_m hart word U = illegal word

abbrev pub returned_from_s : Hart → ℕ → Outcome
returned_from_s hart word =
    if is_kept_from hart.mode tsr hart.csrs.mstatus then illegal word
    else returned hart (sret_mode hart.csrs) hart.csrs.sepc (sret_done hart.csrs)

-- ---- the meaning of an instruction

-- the address of pc or of rs1 with the immediate added
abbrev pub moved_by : Ops → ℕ → ℕ
moved_by ops from = wrapped (pos from +ℤ ops.imm)

-- By the values of its source registers and its class. None where something that it reads in memory isn't told.
abbrev pub outcome_by : Class → Seen → Hart → Decoded → ℕ → ℕ → ℕ → Option Outcome
outcome_by Computes seen hart d word rs1 rs2 = Some (goes hart (Some (computed d.ins d.ops hart.pc rs1 rs2)) (behind hart.pc))
outcome_by Branches seen hart d word rs1 rs2 = Some (branch hart (is_taken d.ins rs1 rs2) (moved_by d.ops hart.pc))
outcome_by Jumps seen hart d word rs1 rs2 = Some (jump hart (Some (behind hart.pc)) (moved_by d.ops hart.pc))
outcome_by JumpsByRegister seen hart d word rs1 rs2 = Some (jump hart (Some (behind hart.pc)) (moved_by d.ops rs1 / 2 * 2))
outcome_by (Accesses kind size extended) seen hart d word rs1 rs2 =
    access seen hart (record { ins = d.ins; rs2 = rs2; kind = kind; size = size; extended = extended; va = moved_by d.ops rs1 })
outcome_by (ChangesCsr change) seen hart d word rs1 rs2 =
    Some (csr_changed hart change d.ops (csr_operand (form_of d.ins) d.ops rs1) word (csr_named_by d.ops))
outcome_by Fences seen hart d word rs1 rs2 = Some (goes hart None (behind hart.pc))
outcome_by FencesTranslation seen hart d word rs1 rs2 =
    Some (if is_kept_from hart.mode tvm hart.csrs.mstatus then illegal word else goes hart None (behind hart.pc))
outcome_by CallsEnvironment seen hart d word rs1 rs2 = Some (traps (8 + mode_number hart.mode) 0)
outcome_by Breaks seen hart d word rs1 rs2 = Some (traps 3 hart.pc)
outcome_by ReturnsFromM seen hart d word rs1 rs2 = Some (returned_from_m hart word hart.mode)
outcome_by ReturnsFromS seen hart d word rs1 rs2 = Some (returned_from_s hart word)

unfoldable pub outcome : Seen → Hart → Decoded → ℕ → ℕ → ℕ → Option Outcome
outcome seen hart d word rs1 rs2 = outcome_by (class_of d.ins) seen hart d word rs1 rs2

-- ---- the step

pub record Stepped : Type 0 where
  pub effect : Effect
  pub hart : Hart

-- the register that is written, and its value; x0 never is
abbrev pub write_of : ℕ → ℕ → Option (ℕ × ℕ)
write_of zero value = None
write_of (suc r) value = Some (suc r, value)

abbrev pub rd_written : ℕ → Option ℕ → Option (ℕ × ℕ)
rd_written rd None = None
rd_written rd (Some value) = write_of rd value

-- the registers after a write, or after none
abbrev pub with_write : Registers → Option (ℕ × ℕ) → Registers
with_write x None = x
with_write x (Some w) = updated x w.0 (Some w.1)

-- the hart takes a trap, which the handler's mode finds in its CSRs
unfoldable pub trap_taken : Hart → Option ℕ → Option ℕ → ℕ → ℕ → List Entry → Stepped
trap_taken hart pa word cause tval trail = record {
  effect = record {
    hart = hart.number;
    pc = hart.pc;
    pa = pa;
    word = word;
    rd = None;
    access = None;
    trail = trail;
    trap = Some (record { cause = cause; epc = hart.pc; tval = tval; to = trap_mode hart.csrs hart.mode cause });
  };
  hart = record hart {
    pc = handler_of hart.csrs (trap_mode hart.csrs hart.mode cause);
    mode = trap_mode hart.csrs hart.mode cause;
    csrs = trapped hart.csrs hart.mode cause hart.pc tval;
  };
}

-- the hart after an instruction with this rd, which left this
abbrev pub retired : Hart → ℕ → ℕ → ℕ → Done → Stepped
retired hart pa word rd done = record {
  effect = record {
    hart = hart.number;
    pc = hart.pc;
    pa = Some pa;
    word = Some word;
    rd = rd_written rd done.value;
    access = done.access;
    trail = done.trail;
    trap = None;
  };
  hart = record hart {
    pc = done.next;
    x = with_write hart.x (rd_written rd done.value);
    mode = done.mode;
    csrs = done.csrs;
    reserved = done.reserved;
  };
}

abbrev pub stepped_by : Hart → ℕ → ℕ → ℕ → Outcome → Stepped
stepped_by hart pa word rd (retires done) = retired hart pa word rd done
stepped_by hart pa word rd (raises cause tval trail) = trap_taken hart (Some pa) (Some word) cause tval trail

-- the word at the physical address, and what it is by the table
unfoldable pub step_decoded : Seen → Hart → ℕ → ℕ → Option Decoded → Option Stepped
step_decoded seen hart pa word None = Some (trap_taken hart (Some pa) (Some word) 2 word [])
step_decoded seen hart pa word (Some d) = do
  a ← hart.x (rs1_read d)
  b ← hart.x d.ops.rs2
  o ← outcome seen hart d word a b
  Some (stepped_by hart pa word d.ops.rd o)

abbrev pub step_fetched : Seen → Hart → ℕ → Option ℕ → Option Stepped
step_fetched seen hart pa None = Some (trap_taken hart None None (access_fault Fetch) hart.pc [])
step_fetched seen hart pa (Some word) = step_decoded seen hart pa word (decoded word)

abbrev pub step_at : Seen → Hart → Translated → Option Stepped
step_at seen hart (reached pa) = told seen.byte pa 4 >>= step_fetched seen hart pa
step_at seen hart (faults cause) = Some (trap_taken hart None None cause hart.pc [])

-- how pc is translated
abbrev pub fetch_walked : Seen → Hart → Option Walked
fetch_walked seen hart = translate (entries_in seen.byte) hart.csrs.satp (rights_of hart hart.mode) Fetch hart.pc

-- One step. None where something that it needs isn't told, and nowhere else.
unfoldable pub step : Seen → Hart → Option Stepped
step seen hart = fetch_walked seen hart >>= (λ w. step_at seen hart w.result)
