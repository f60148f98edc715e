-- A run of a hart whose store is refused: it pins one register for its base and its value, which no word can serve. The hart
-- makes no word for it, and ends.
use Rattle.std.specs.Prelude.{refl, List, [], ◌∷◌, Some, None}
use Rattle.rv_fields.specs.CsrFile.{written}
use Rattle.rv_fields.specs.Decode.{ins_at}
use Rattle.rv_fields.specs.Field.{field_of, masked, with_field}
use Rattle.rv_fields.specs.Step.{outcome, step, step_decoded, trap_taken}
use Rattle.rv_fields.specs.Trap.{popped}
use Rattle.rv_fields.specs.declared.row_table.Ins.TheVariants.{Sd}
use Rattle.boot_words.specs.Startup.{start_csrs, start_mode}
use Rattle.region_plan.specs.Plan.{Work}
use Rattle.region_plan.specs.Request.{Quiet, a_mem, a_plain, named_ins, no_items, one, one_address}
use Rattle.trace_fields.specs.declared.request.Cause.TheVariants.{NoRegister}
use Rattle.trace_fields.specs.declared.request.Kind.TheVariants as kinds
use Rattle.trace_text.specs.Lines.{refused, request}
use Rattle.world_face.specs.Events.{Event, nothing_asked}
use Rattle.hart_task.specs.OneRun.{IsFinishedRun}
use Rattle.hart_task.specs.State.{start}
use Rattle.hart_task.proofs.ExampleParts.{behind, ends_at, hart_in, no_pins, pages_at, space_with, with_space, work_of_spaces}

-- sd x5,0(x5) at the address 0x10000
abbrev pub job : Work
job = work_of_spaces (space_with (pages_at 0x10 1) ∷ []) (hart_in 0
    (one (a_plain (a_mem (record { ins = named_ins Sd; window = one_address 0x10000; demand = Quiet; want = None; pins = record no_pins { rs1 = Some 5; rs2 = Some 5 } }))) no_items) ∷ [])

abbrev pub events : List Event
events =
    record { hart = 0; parts = with_space 0; asked = nothing_asked; lines = request 0 0 kinds.Mem ∷ refused 0 0 NoRegister 0 ∷ [] }
    ∷ ends_at 0 0x20000 0x84000000
    ∷ []

pub run : IsFinishedRun job 7 0 events
unfolding field_of with_field masked written popped ins_at start_csrs start_mode outcome trap_taken step_decoded step
run = record { end = behind job (start job 7 0) events; run = (refl, (refl, refl)); finished = tt }
