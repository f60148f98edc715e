-- Which operands a request for one instruction may give; those that it does not give are drawn.
use Rattle.std.specs.Prelude.{Bool, true, false, not, ◌&&◌, ◌||◌, ◌==◌, ◌≡◌, Option, Some, None, IsTrue, is_none, nat_lt, unwrap_or, ℤ, pos, negsuc, []}
use Rattle.rv_fields.specs.declared.class.Class.{Class}
use Rattle.rv_fields.specs.declared.class.Class.TheVariants.{Computes, Branches, Jumps, JumpsByRegister, Accesses, ChangesCsr, Fences, FencesTranslation, CallsEnvironment, Breaks, ReturnsFromM, ReturnsFromS}
use Rattle.rv_fields.specs.declared.class.CsrChange.TheVariants.{Swap, Set, Clear}
use Rattle.rv_fields.specs.declared.csr.Csr.{Csr}
use Rattle.rv_fields.specs.declared.csr.Csr.TheVariants.{Sstatus, Stvec, Sscratch, Sepc, Scause, Stval, Satp, Mstatus, Medeleg, Mideleg, Mie, Mtvec, Mscratch, Mepc, Mcause, Mtval, Pmpcfg0, Pmpaddr0, Mhartid}
use Rattle.rv_fields.specs.declared.row_table.Form.{Form}
use Rattle.rv_fields.specs.declared.row_table.Form.TheVariants.{U, J, I, B, S, H6, H5, R, A, L, C, K, V, N}
use Rattle.rv_fields.specs.declared.row_table.Ins.{Ins}
use Rattle.rv_fields.specs.declared.row_table.Ops.{Ops}
use Rattle.rv_fields.specs.Class.{class_of}
use Rattle.rv_fields.specs.Csr.{csr_number}
use Rattle.rv_fields.specs.Decode.{has_imm, has_rd, has_rs1, has_rs2}
use Rattle.rv_fields.specs.RowTable.{form_of}
use Rattle.rv_encode.specs.Fitting.{misfit}
use Rattle.region_plan.specs.Plan.{is_it}
use Rattle.region_plan.specs.Request.{Pins}

-- no operand is given, and no register is to avoid
abbrev pub no_pins : Pins
no_pins = record { rd = None; rs1 = None; rs2 = None; imm = None; aqrl = 0; avoid = []; zero_rs1 = false }

-- the operands of the word; those that aren't given are 0
abbrev pub pinned_ops : Pins → Ops
pinned_ops pins = record { rd = unwrap_or pins.rd 0; rs1 = unwrap_or pins.rs1 0; rs2 = unwrap_or pins.rs2 0; imm = unwrap_or pins.imm (pos 0); aqrl = 0 }

-- those of an instruction on a CSR, whose number stands in the immediate's place
abbrev pub csr_pins : Csr → Pins → Pins
csr_pins csr pins = record pins { imm = Some (pos (csr_number csr)) }

-- an operand may be given where the form has it
abbrev pub may_give : {A : Type 0} → Bool → Option A → Bool
may_give true pin = true
may_give false (Some operand) = false
may_give false None = true

abbrev pub may_give_all : Form → Pins → Bool
may_give_all form pins = may_give (has_rd form) pins.rd
    && may_give (has_rs1 form && not pins.zero_rs1) pins.rs1
    && may_give (has_rs2 form) pins.rs2
    && may_give (has_imm form) pins.imm

-- the word of the instruction can hold the operands
abbrev pub fits_word : Ins → Ops → Bool
fits_word ins ops = is_none (misfit (form_of ins) ops)

-- ---- instructions

-- what a fence orders, where it is given: 8 bits
abbrev pub is_fence_set : Option ℤ → Bool
is_fence_set None = true
is_fence_set (Some (pos n)) = nat_lt n 256
is_fence_set (Some (negsuc n)) = false

-- A fence names no register but x0.
abbrev pub suit_fence : Pins → Bool
suit_fence pins = (unwrap_or pins.rd 0 == 0) && (unwrap_or pins.rs1 0 == 0) && is_none pins.rs2 && is_fence_set pins.imm

-- by the class of the instruction
abbrev pub suit_as : Class → Ins → Pins → Bool
suit_as Computes ins pins = may_give_all (form_of ins) pins && fits_word ins (pinned_ops pins)
suit_as Branches ins pins = false
suit_as Jumps ins pins = false
suit_as JumpsByRegister ins pins = false
suit_as (Accesses kind size extended) ins pins = false
suit_as (ChangesCsr change) ins pins = false
suit_as Fences ins pins = suit_fence pins
suit_as FencesTranslation ins pins = false
suit_as CallsEnvironment ins pins = false
suit_as Breaks ins pins = false
suit_as ReturnsFromM ins pins = false
suit_as ReturnsFromS ins pins = false

-- An instruction that computes a value, or a fence, of whose operands some are given, and no others.
abbrev pub suit : Ins → Pins → Bool
suit ins pins = suit_as (class_of ins) ins pins

pub record Suit (ins : Ins) (pins : Pins) : Type 0 where
  pub whole : IsTrue (suit ins pins)
  pub no_order : pins.aqrl ≡ 0

-- ---- instructions on CSRs

-- A template may name all CSRs but those that differ from one start to another, and those that hold nothing that can change.
abbrev pub may_name : Csr → Bool
may_name Sstatus = true
may_name Stvec = true
may_name Sscratch = true
may_name Sepc = true
may_name Scause = true
may_name Stval = true
may_name Satp = true
may_name Mstatus = true
may_name Medeleg = true
may_name Mideleg = false
may_name Mie = false
may_name Mtvec = true
may_name Mscratch = true
may_name Mepc = true
may_name Mcause = false
may_name Mtval = false
may_name Pmpcfg0 = false
may_name Pmpaddr0 = false
may_name Mhartid = true

-- those that it may write
abbrev pub is_scratch : Csr → Bool
is_scratch Sstatus = false
is_scratch Stvec = false
is_scratch Sscratch = true
is_scratch Sepc = false
is_scratch Scause = false
is_scratch Stval = false
is_scratch Satp = false
is_scratch Mstatus = false
is_scratch Medeleg = false
is_scratch Mideleg = false
is_scratch Mie = false
is_scratch Mtvec = false
is_scratch Mscratch = true
is_scratch Mepc = false
is_scratch Mcause = false
is_scratch Mtval = false
is_scratch Pmpcfg0 = false
is_scratch Pmpaddr0 = false
is_scratch Mhartid = false

-- rs1 is sure to be x0
abbrev pub gives_x0 : Pins → Bool
gives_x0 pins = pins.zero_rs1 || is_it 0 pins.rs1

-- Bits are set or cleared by the register's, and none are by x0.
abbrev pub may_change : Class → Csr → Pins → Bool
may_change (ChangesCsr Swap) csr pins = is_scratch csr
may_change (ChangesCsr Set) csr pins = is_scratch csr || gives_x0 pins
may_change (ChangesCsr Clear) csr pins = is_scratch csr || gives_x0 pins
may_change Computes csr pins = false
may_change Branches csr pins = false
may_change Jumps csr pins = false
may_change JumpsByRegister csr pins = false
may_change (Accesses kind size extended) csr pins = false
may_change Fences csr pins = false
may_change FencesTranslation csr pins = false
may_change CallsEnvironment csr pins = false
may_change Breaks csr pins = false
may_change ReturnsFromM csr pins = false
may_change ReturnsFromS csr pins = false

-- the form of the instructions that change a CSR by a register
abbrev pub is_by_register : Form → Bool
is_by_register U = false
is_by_register J = false
is_by_register I = false
is_by_register B = false
is_by_register S = false
is_by_register H6 = false
is_by_register H5 = false
is_by_register R = false
is_by_register A = false
is_by_register L = false
is_by_register C = true
is_by_register K = false
is_by_register V = false
is_by_register N = false

-- An instruction that reads a CSR, or changes one that a template may write, of whose operands some are given, and no others.
abbrev pub suit_csr : Csr → Ins → Pins → Bool
suit_csr csr ins pins = may_name csr && may_change (class_of ins) csr pins
    && is_by_register (form_of ins) && may_give_all (form_of ins) pins && fits_word ins (pinned_ops (csr_pins csr pins))

pub record SuitCsr (csr : Csr) (ins : Ins) (pins : Pins) : Type 0 where
  pub whole : IsTrue (suit_csr csr ins pins)
  pub no_order : pins.aqrl ≡ 0
