-- What the types of this crate are in the definitions of the machine.
use Rattle.std.specs.Prelude.{ℕ, Some, slice_index}
use Rattle.rv_fields.specs.Decode.{Decoded}
use Rattle.rv_fields.specs.Effect.{Effect}
use Rattle.rv_fields.specs.Hart as machine
use Rattle.rv_fields.specs.Step as steps
use Rattle.sv_walk.specs.Views.{trail_seen}
use Rattle.rv_step.specs.declared.hart.Hart.{Hart}
use Rattle.rv_step.specs.declared.hart.Stepped.{Stepped}
use Rattle.rv_step.specs.declared.instruction.Instruction.{Instruction}
use Rattle.rv_step.specs.declared.outcome.Done.{Done}
use Rattle.rv_step.specs.declared.outcome.Outcome.{Outcome}
use Rattle.rv_step.specs.declared.outcome.Outcome.TheVariants.{Retires, Raises}

abbrev pub hart_seen : Hart → machine.Hart
hart_seen h = record { number = h.number; pc = h.pc; x = λ r. Some (slice_index h.x r); mode = h.mode; csrs = h.csrs; reserved = h.reserved }

-- what a step of the hart of this number did
abbrev pub effect_seen : ℕ → Stepped → Effect
effect_seen hart s = record {
  hart = hart;
  pc = s.pc;
  pa = s.pa;
  word = s.word;
  rd = s.rd;
  access = s.access;
  trail = trail_seen s.trail;
  trap = s.trap;
}

-- what a step did, and the hart after it
abbrev pub stepped_seen : Hart → Stepped → steps.Stepped
stepped_seen after s = record { effect = effect_seen after.number s; hart = hart_seen after }

abbrev pub decoded_seen : Instruction → Decoded
decoded_seen i = record { ins = i.ins; ops = i.ops }

-- the mode, the CSRs and the reservation are those that the hart has then
abbrev pub done_seen : Hart → Done → steps.Done
done_seen h d = record {
  value = d.value;
  next = d.next;
  mode = h.mode;
  csrs = h.csrs;
  reserved = h.reserved;
  access = d.access;
  trail = trail_seen d.trail;
}

abbrev pub outcome_seen : Hart → Outcome → steps.Outcome
outcome_seen h (Retires d) = steps.retires (done_seen h d)
outcome_seen h (Raises cause tval trail) = steps.raises cause tval (trail_seen trail)
