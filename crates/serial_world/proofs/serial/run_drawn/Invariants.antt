-- The turns so far are those that the words drawn so far say.
use Rattle.region_plan.specs.Views.{work_of}
use Rattle.serial_world.specs.Running.{all_left}
use Rattle.serial_world.proofs.Drawn.{DrawnSoFar}
use Rattle.serial_world.proofs.serial.run_drawn.Given as goal

abbrev pub invariant-turns : goal.invariant-turns
invariant-turns l = DrawnSoFar (work_of l.job) l.seed l.harts l.unfinished.items l.draws

abbrev pub decreases-turns : goal.decreases-turns
decreases-turns l = all_left (work_of l.job) l.harts
