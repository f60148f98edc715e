-- The turns so far follow the list so far.
use Rattle.region_plan.specs.Views.{work_of}
use Rattle.serial_world.proofs.Listed.{ListedSoFar}
use Rattle.serial_world.proofs.serial.run_list.Given as goal

abbrev pub invariant-loop-hart : goal.invariant-loop-hart
invariant-loop-hart l = ListedSoFar (work_of l.job) l.seed l.harts l.schedule l.hart-index
