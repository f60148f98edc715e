-- A run of a hart that jumps to the last word of its window: it has no room for the requests behind the jump, which are refused,
-- but for its ending step.
use Rattle.std.specs.Prelude.{refl, pos, List, [], ◌∷◌, Some, None}
use Rattle.rv_fields.specs.CsrFile.{written}
use Rattle.rv_fields.specs.Decode.{ins_at}
use Rattle.rv_fields.specs.Field.{field_of, masked, with_field}
use Rattle.rv_fields.specs.Step.{outcome, step, step_decoded, trap_taken}
use Rattle.rv_fields.specs.Trap.{popped}
use Rattle.rv_fields.specs.declared.row_table.Ins.TheVariants.{Addi, Jal}
use Rattle.rand_pcg.specs.Lcg.{state_after}
use Rattle.choice_tree.specs.Draws.{word_of}
use Rattle.boot_words.specs.Startup.{start_csrs, start_mode}
use Rattle.region_plan.specs.Plan.{Work, no_hart}
use Rattle.region_plan.specs.Request.{Quiet, a_jump, a_plain, an_ins, named_ins, no_items, one}
use Rattle.region_plan.specs.Views.{work_with}
use Rattle.trace_fields.specs.declared.request.Cause.TheVariants.{WindowFull}
use Rattle.trace_fields.specs.declared.request.Kind.TheVariants as kinds
use Rattle.trace_text.specs.Lines.{done, made, refused, request}
use Rattle.world_face.specs.Events.{Event}
use Rattle.hart_task.specs.OneRun.{IsFinishedRun}
use Rattle.hart_task.specs.State.{start}
use Rattle.hart_task.proofs.ExampleParts.{behind, ends_at, event_alone, no_pins, plain_effect_at}

-- jal x0 ahead by 1023 words, addi x1,x0,5, and an addi with no operand pinned
abbrev pub job : Work
job = work_with (record no_hart {
  template = one (a_plain (a_jump (record { ins = named_ins Jal; least = 1023; most = 1023; demand = Quiet; pins = record no_pins { rd = Some 0 } })))
      (one (a_plain (an_ins (named_ins Addi) (record no_pins { rd = Some 1; rs1 = Some 0; imm = Some (pos 5) })))
      (one (a_plain (an_ins (named_ins Addi) no_pins)) no_items));
} ∷ [])

abbrev pub events : List Event
events =
    event_alone 0 (request 0 0 kinds.Jump ∷ [])
    ∷ event_alone 0 (made (plain_effect_at 0 0x84000000 0x84000000 0x7fd0006f None) ∷ done 0 0 ∷ [])
    ∷ event_alone 0 (request 0 1 kinds.Ins ∷ refused 0 1 WindowFull 0 ∷ [])
    ∷ event_alone 0 (request 0 2 kinds.Ins ∷ refused 0 2 WindowFull 0 ∷ [])
    ∷ ends_at 0 0x84000ffc 0x84000ffc
    ∷ []

pub run : IsFinishedRun job 7 0 events
unfolding field_of with_field masked written popped ins_at start_csrs start_mode outcome trap_taken step_decoded step word_of state_after
run = record { end = behind job (start job 7 0) events; run = (refl, (refl, (refl, (refl, (refl, refl))))); finished = tt }
