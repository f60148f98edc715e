-- The harts below the present one have run to their ends.
use Rattle.region_plan.specs.Views.{work_of}
use Rattle.serial_world.specs.Running.{Leads, TakesAllBelow}
use Rattle.serial_world.proofs.harts.Harts.finish_all.Given as goal

abbrev pub invariant-loop-hart : goal.invariant-loop-hart
invariant-loop-hart l = Leads (work_of l.job) l.initial.self l.self (TakesAllBelow l.hart)
