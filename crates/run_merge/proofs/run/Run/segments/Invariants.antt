-- The segments, and those of the harts that are left, are the whole.
use Rattle.std.proofs.Common.{◌≡◌, ◌++◌, drop}
use Rattle.ram_image.specs.Segments.{stretches}
use Rattle.run_merge.specs.Image.{code_stretches}
use Rattle.run_merge.specs.Run.{images_of}
use Rattle.run_merge.proofs.run.Run.segments.Given as goal

abbrev pub invariant-loop-hart : goal.invariant-loop-hart
invariant-loop-hart l =
    stretches l.segments.items ++ code_stretches l.hart (images_of (drop l.hart l.harts))
    ≡ stretches l.initial.segments.items ++ code_stretches 0 (images_of l.harts)
