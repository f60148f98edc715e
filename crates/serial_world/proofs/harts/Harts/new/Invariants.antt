-- The harts below the present one stand before their first events.
use Rattle.region_plan.specs.Views.{work_of}
use Rattle.serial_world.proofs.Opening.{Begun}
use Rattle.serial_world.proofs.harts.Harts.new.Given as goal

abbrev pub invariant-loop-hart : goal.invariant-loop-hart
invariant-loop-hart l = Begun (work_of l.job) l.seed l.tasks.items l.hart
