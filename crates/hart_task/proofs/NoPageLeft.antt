-- A run of a hart of a job that has one frame for data: its first load takes the frame for its page, and the load of a second page
-- is refused.
use Rattle.std.specs.Prelude.{refl, List, [], ◌∷◌, Some, None}
use Rattle.rand_pcg.specs.Lcg.{state_after}
use Rattle.rv_fields.specs.CsrFile.{written}
use Rattle.rv_fields.specs.Decode.{ins_at}
use Rattle.rv_fields.specs.Field.{field_of, masked, with_field}
use Rattle.rv_fields.specs.Step.{outcome, step, step_decoded, trap_taken}
use Rattle.rv_fields.specs.Trap.{popped}
use Rattle.rv_fields.specs.declared.access.AccessKind.TheVariants.{Load}
use Rattle.choice_tree.specs.Draws.{word_of}
use Rattle.boot_words.specs.Startup.{start_csrs, start_mode}
use Rattle.region_plan.specs.Plan.{Work}
use Rattle.region_plan.specs.Request.{a_plain, no_items, one}
use Rattle.trace_fields.specs.declared.request.Cause.TheVariants.{NoFreePage}
use Rattle.trace_fields.specs.declared.request.Kind.TheVariants as kinds
use Rattle.trace_text.specs.Lines.{done, fixed, given, made, refused, request, settled, touched}
use Rattle.world_face.specs.Events.{Event, Frames, nothing_asked}
use Rattle.hart_task.specs.OneRun.{IsFinishedRun}
use Rattle.hart_task.specs.State.{start}
use Rattle.hart_task.proofs.ExampleParts.{behind, ends_at, hart_in, in_shard, leaf, load_at, moving, pages_at, plain_effect_at, settles, space_with, way, with_space, work_of_spaces}

-- a load at 0x10000, and one at 0x11000
abbrev pub job : Work
job = record (work_of_spaces (space_with (pages_at 0x10 2) ∷ []) (hart_in 0 (one (a_plain (load_at 0x10000)) (one (a_plain (load_at 0x11000)) no_items)) ∷ [])) { frames = 1 }

abbrev pub first : Event
first = settles 0 0 0x10 way (request 0 0 kinds.Mem ∷ fixed 0 7 0xffea ∷ given 0 (0x6f ∷ []) 0 0 ∷ settled 0 0 leaf ∷ [])

abbrev pub loaded : Event
loaded = in_shard 0 (touched 0 0x86000000 (0x70 ∷ 0x2c ∷ 0x2b ∷ 0x82 ∷ 0x42 ∷ 0x91 ∷ 0xed ∷ 0x50 ∷ [])
    ∷ made (moving Load 0x10000 (Some 0x50ed9142822b2c70) None way (plain_effect_at 0 0x20000 0x84000000 0x163be83 (Some (29, 0x50ed9142822b2c70))))
    ∷ done 0 0 ∷ [])

abbrev pub second : Event
second = record {
  hart = 0;
  parts = with_space 0;
  asked = record nothing_asked { settle = Some (record { vpage = 0x11; object = Some (0, 1); frame = None; path = [] }); short = Some Frames };
  lines = request 0 1 kinds.Mem ∷ refused 0 1 NoFreePage 0 ∷ [];
}

abbrev pub events : List Event
events = first ∷ loaded ∷ second ∷ ends_at 0 0x20004 0x84000004 ∷ []

pub run : IsFinishedRun job 7 0 events
unfolding field_of with_field masked written popped ins_at start_csrs start_mode outcome trap_taken step_decoded step word_of state_after
run = record { end = behind job (start job 7 0) events; run = (refl, (refl, (refl, (refl, refl)))); finished = tt }
