-- A job that keeps the rules has a hart 0.
use Rattle.std.proofs.Common.{arith}
use Rattle.region_plan.specs.Views.{work_of}
use Rattle.hart_task.proofs.tests.hart_0.Goals as goal

pub returns : goal.returns
returns c = c.new.ensures.task (work_of c.args.job.now) c.requires (omega (arith, c.requires.some))
