-- Runs of two harts whose address spaces show the same page of an object at different addresses: the one puts a value into a
-- register and stores it, and the other loads it.
use Rattle.std.specs.Prelude.{refl, List, [], ◌∷◌, Some, None}
use Rattle.rand_pcg.specs.Lcg.{state_after}
use Rattle.rv_fields.specs.CsrFile.{written}
use Rattle.rv_fields.specs.Decode.{ins_at}
use Rattle.rv_fields.specs.Effect.{Entry}
use Rattle.rv_fields.specs.Field.{field_of, masked, with_field}
use Rattle.rv_fields.specs.Step.{outcome, step, step_decoded, trap_taken}
use Rattle.rv_fields.specs.Trap.{popped}
use Rattle.rv_fields.specs.declared.access.AccessKind.TheVariants.{Load, Store}
use Rattle.rv_fields.specs.declared.row_table.Ins.TheVariants.{Sd}
use Rattle.choice_tree.specs.Draws.{word_of}
use Rattle.boot_words.specs.Startup.{start_csrs, start_mode}
use Rattle.region_plan.specs.Plan.{HartPlan, Work}
use Rattle.region_plan.specs.Request.{Quiet, a_mem, a_plain, a_value, named_ins, no_items, one, one_address}
use Rattle.trace_fields.specs.declared.request.Kind.TheVariants as kinds
use Rattle.trace_text.specs.Lines.{done, fixed, given, made, request, settled}
use Rattle.world_face.specs.Events.{Event}
use Rattle.hart_task.specs.OneRun.{IsFinishedRun}
use Rattle.hart_task.specs.State.{start}
use Rattle.hart_task.proofs.ExampleParts.{behind, ends_at, event_alone, hart_in, in_shard, leaf, load_at, moving, no_pins, pages_at, plain_effect_at, settles, space_with, way, work_of_spaces}

-- 5 into x7, and a store of x7 at 0x10000
abbrev pub writer : HartPlan
writer = hart_in 0 (one (a_plain (a_value 5 (record no_pins { rd = Some 7 })))
    (one (a_plain (a_mem (record { ins = named_ins Sd; window = one_address 0x10000; demand = Quiet; want = None; pins = record no_pins { rs2 = Some 7 } }))) no_items))

-- a load at 0x30000
abbrev pub reader : HartPlan
reader = hart_in 1 (one (a_plain (load_at 0x30000)) no_items)

abbrev pub job : Work
job = work_of_spaces (space_with (pages_at 0x10 1) ∷ space_with (pages_at 0x30 1) ∷ []) (writer ∷ reader ∷ [])

-- ---- hart 0

-- no word is made for a value that an untouched register can start with
abbrev pub valued : Event
valued = event_alone 0 (request 0 0 kinds.Value ∷ fixed 0 7 5 ∷ done 0 0 ∷ [])

abbrev pub storing : Event
storing = settles 0 0 0x10 way (request 0 1 kinds.Mem ∷ fixed 0 30 0xffea ∷ given 0 (0x6f ∷ []) 0 0 ∷ settled 0 0 leaf ∷ [])

abbrev pub stored : Event
stored = in_shard 0 (made (moving Store 0x10000 None (Some 5) way (plain_effect_at 0 0x20000 0x84000000 0x7f3b23 None)) ∷ done 0 1 ∷ [])

abbrev pub events : List Event
events = valued ∷ storing ∷ stored ∷ ends_at 0 0x20004 0x84000004 ∷ []

pub run : IsFinishedRun job 7 0 events
unfolding field_of with_field masked written popped ins_at start_csrs start_mode outcome trap_taken step_decoded step word_of state_after
run = record { end = behind job (start job 7 0) events; run = (refl, (refl, (refl, (refl, refl)))); finished = tt }

-- ---- hart 1

abbrev pub leaf_1 : Entry
leaf_1 = record { at = 0x80304180; pte = 0x218000d7 }

abbrev pub way_1 : List Entry
way_1 = record { at = 0x80300000; pte = 0x200c0c01 } ∷ record { at = 0x80303000; pte = 0x200c1001 } ∷ leaf_1 ∷ []

-- the page has its frame already
abbrev pub loading : Event
loading = settles 1 1 0x30 way_1 (request 1 0 kinds.Mem ∷ fixed 1 28 0x3058d ∷ settled 1 1 leaf_1 ∷ [])

abbrev pub loaded : Event
loaded = in_shard 1 (made (moving Load 0x30000 (Some 5) None way_1 (plain_effect_at 1 0x20000 0x84100000 0xa73e3e83 (Some (29, 5)))) ∷ done 1 0 ∷ [])

abbrev pub events_1 : List Event
events_1 = loading ∷ loaded ∷ ends_at 1 0x20004 0x84100004 ∷ []

pub run_1 : IsFinishedRun job 7 1 events_1
unfolding field_of with_field masked written popped ins_at start_csrs start_mode outcome trap_taken step_decoded step word_of state_after
run_1 = record { end = behind job (start job 7 1) events_1; run = (refl, (refl, (refl, refl))); finished = tt }
