-- A step out of its parts.
use Rattle.std.proofs.Common.{◌≡◌, ℕ, ◌%◌, ◌*◌, ◌^◌, ◌<◌, Bool, true, false, cond, List, Option, Some, None, refl, sym, ap, subst, ◌∙◌, eq-eqb, slice_index}
use Rattle.rv_fields.specs.Attempt.{◌>>=◌}
use Rattle.rv_fields.specs.declared.access.Access.{Access}
use Rattle.rv_fields.specs.declared.access.Access.TheVariants.{Fetch}
use Rattle.rv_fields.specs.declared.class.Class.{Class}
use Rattle.rv_fields.specs.declared.mode.Mode.{Mode}
use Rattle.rv_fields.specs.Class.{class_of}
use Rattle.rv_fields.specs.declared.row_table.Ins.{Ins}
use Rattle.rv_fields.specs.declared.row_table.Ops.{Ops}
use Rattle.rv_fields.specs.Decode.{Decoded, decoded, rs1_of_form}
use Rattle.rv_fields.specs.Hart as machine
use Rattle.rv_fields.specs.RowTable.{form_of}
use Rattle.rv_step.specs.declared.hart.Hart.{Hart}
use Rattle.rv_step.specs.declared.instruction.Instruction.{Instruction}
use Rattle.rv_step.specs.Views.{hart_seen, decoded_seen}
use Rattle.rv_fields.specs.Memory.{Seen}
use Rattle.rv_fields.specs.Step as steps
use Rattle.rv_fields.specs.Step.{Outcome, Target, outcome, outcome_by, step, step_at, step_decoded, fetch_walked, data_walked, performed_at, right_of, rights_of, data_mode, stepped_by}
use Rattle.rv_fields.specs.Sv39.{Entries, Rights, Walked, translate, entries_in, misaligned}

-- ---- an instruction by its class

pub by_class : (seen : Seen) (hart : machine.Hart) (d : Decoded) (word rs1 rs2 : ℕ) (class : Class) → class ≡ class_of d.ins
    → outcome seen hart d word rs1 rs2 ≡ outcome_by class seen hart d word rs1 rs2
unfolding outcome
by_class seen hart d word rs1 rs2 class is = ap (λ k. outcome_by k seen hart d word rs1 rs2) (sym is)

-- ---- an access by its walk

-- how the code walks: by what its bus tells of entries, with the satp and the rights that it has found
pub data_walk : (seen : Seen) (hart : machine.Hart) (entries : Entries) (satp : ℕ) (rights : Rights) (mode : Mode) (access : Access) (va : ℕ) (w : Option Walked)
    → w ≡ translate entries satp rights access va → entries ≡ entries_in seen.byte → satp ≡ hart.csrs.satp → rights ≡ rights_of hart mode
    → mode ≡ data_mode hart.mode hart.csrs.mstatus → w ≡ data_walked seen hart access va
data_walk seen hart entries satp rights mode access va w walked tells is_satp are_rights is_mode =
    walked ∙ (λ i. translate (tells i) (is_satp i) ((are_rights ∙ ap (rights_of hart) is_mode) i) access va)

pub by_walk : (seen : Seen) (hart : machine.Hart) (t : Target) (access : Access) (w : Option Walked) → t.va % t.size ≡ 0 → access ≡ right_of t.kind
    → w ≡ data_walked seen hart access t.va → steps.access seen hart t ≡ (w >>= λ w. performed_at seen hart t w.trail w.result)
by_walk seen hart t access w aligned right walked =
    ap (λ b. cond b (data_walked seen hart (right_of t.kind) t.va >>= λ w. performed_at seen hart t w.trail w.result)
    (Some (steps.traps (misaligned (right_of t.kind)) t.va))) (eq-eqb (t.va % t.size) 0 aligned)
    ∙ ap (λ a. data_walked seen hart a t.va >>= λ w. performed_at seen hart t w.trail w.result) (sym right)
    ∙ ap (λ m. m >>= λ w. performed_at seen hart t w.trail w.result) (sym walked)

-- ---- a step by the walk of its pc

pub fetch_walk : (seen : Seen) (hart : machine.Hart) (entries : Entries) (satp : ℕ) (rights : Rights) (w : Option Walked)
    → w ≡ translate entries satp rights Fetch hart.pc → entries ≡ entries_in seen.byte → satp ≡ hart.csrs.satp → rights ≡ rights_of hart hart.mode
    → w ≡ fetch_walked seen hart
fetch_walk seen hart entries satp rights w walked tells is_satp are_rights =
    walked ∙ (λ i. translate (tells i) (is_satp i) (are_rights i) Fetch hart.pc)

pub by_fetch : (seen : Seen) (hart : machine.Hart) (w : Option Walked) → w ≡ fetch_walked seen hart
    → step seen hart ≡ (w >>= λ w. step_at seen hart w.result)
unfolding step
by_fetch seen hart w walked = ap (λ m. m >>= λ w. step_at seen hart w.result) (sym walked)

-- ---- a step by what comes of its instruction

-- the instruction with the values of its registers
abbrev pub read_from : Hart → Ins → Ops → ℕ → Instruction
read_from hart ins ops word = record {
  ins = ins;
  form = form_of ins;
  ops = ops;
  rs1 = slice_index hart.x (rs1_of_form (form_of ins) ops);
  rs2 = slice_index hart.x ops.rs2;
  word = word;
}

pub by_outcome : (seen : Seen) (hart : Hart) (pa word : ℕ) (ins : Ins) (ops : Ops) (i : Instruction) (o : Outcome)
    → Some (decoded_seen (read_from hart ins ops word)) ≡ decoded word → i ≡ read_from hart ins ops word
    → outcome seen (hart_seen hart) (decoded_seen i) i.word i.rs1 i.rs2 ≡ Some o
    → step_decoded seen (hart_seen hart) pa word (decoded word) ≡ Some (stepped_by (hart_seen hart) pa word ops.rd o)
unfolding step_decoded
by_outcome seen hart pa word ins ops i o is read comes =
    let here = subst (λ (i : Instruction). outcome seen (hart_seen hart) (decoded_seen i) i.word i.rs1 i.rs2 ≡ Some o) read comes in
    rw (← is) (ap (λ m. m >>= λ o. Some (stepped_by (hart_seen hart) pa word ops.rd o)) here)
