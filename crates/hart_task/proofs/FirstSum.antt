-- A run of a hart that adds 5 to x0 and ends: each of its events is the one of its machine.
use Rattle.std.specs.Prelude.{refl, pos, List, [], ◌∷◌, Some}
use Rattle.rv_fields.specs.CsrFile.{written}
use Rattle.rv_fields.specs.Decode.{ins_at}
use Rattle.rv_fields.specs.Field.{field_of, masked, with_field}
use Rattle.rv_fields.specs.Step.{outcome, step, step_decoded, trap_taken}
use Rattle.rv_fields.specs.Trap.{popped}
use Rattle.rv_fields.specs.declared.row_table.Ins.TheVariants.{Addi}
use Rattle.boot_words.specs.Startup.{start_csrs, start_mode}
use Rattle.region_plan.specs.Plan.{Work, no_hart}
use Rattle.region_plan.specs.Request.{a_plain, an_ins, named_ins, no_items, one}
use Rattle.region_plan.specs.Views.{work_with}
use Rattle.trace_fields.specs.declared.request.Kind.TheVariants as kinds
use Rattle.trace_text.specs.Lines.{done, made, request}
use Rattle.world_face.specs.Events.{Event}
use Rattle.hart_task.specs.OneRun.{IsFinishedRun}
use Rattle.hart_task.specs.State.{start}
use Rattle.hart_task.proofs.ExampleParts.{behind, ends_at, event_alone, no_pins, plain_effect_at}

-- addi x1,x0,5
abbrev pub job : Work
job = work_with (record no_hart { template = one (a_plain (an_ins (named_ins Addi) (record no_pins { rd = Some 1; rs1 = Some 0; imm = Some (pos 5) }))) no_items } ∷ [])

abbrev pub events : List Event
events =
    event_alone 0 (request 0 0 kinds.Ins ∷ [])
    ∷ event_alone 0 (made (plain_effect_at 0 0x84000000 0x84000000 0x500093 (Some (1, 5))) ∷ done 0 0 ∷ [])
    ∷ ends_at 0 0x84000004 0x84000004
    ∷ []

pub run : IsFinishedRun job 7 0 events
unfolding field_of with_field masked written popped ins_at start_csrs start_mode outcome trap_taken step_decoded step
run = record { end = behind job (start job 7 0) events; run = (refl, (refl, (refl, refl))); finished = tt }
