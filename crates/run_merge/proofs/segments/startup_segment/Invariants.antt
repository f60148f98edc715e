-- The bytes, and the boot blocks of the harts that are left, are the whole.
use Rattle.std.proofs.Common.{◌≡◌, ◌≤◌, ◌+◌, ◌-◌, ◌++◌, length}
use Rattle.region_plan.specs.Plan.{Work}
use Rattle.region_plan.specs.Views.{IsPlannedBy}
use Rattle.ram_image.specs.Pieces.{laid}
use Rattle.boot_words.specs.Layout.{boot_block_at, dispatcher_at}
use Rattle.run_merge.specs.Image.{boot_pieces_from, initial_in, startup_pieces}
use Rattle.run_merge.specs.Run.{images_of}
use Rattle.run_merge.proofs.segments.startup_segment.Given as goal

abbrev pub invariant-loop-hart : goal.invariant-loop-hart
invariant-loop-hart l = record {
  place : dispatcher_at + length l.bytes.items ≤ boot_block_at l.hart;
  whole : (work : Work) → IsPlannedBy l.plan.harts.items work
      → l.bytes.items ++ laid (dispatcher_at + length l.bytes.items) (boot_pieces_from work (initial_in (images_of l.harts)) l.hart (length l.harts - l.hart))
      ≡ laid dispatcher_at (startup_pieces work (initial_in (images_of l.harts)));
}
