-- The task stays one of its job.
use Rattle.region_plan.specs.Views.{work_of}
use Rattle.hart_task.specs.Task.{IsTaskOf}
use Rattle.hart_task.proofs.tests.assert_run.Given as goal

abbrev pub invariant-loop-place : goal.invariant-loop-place
invariant-loop-place g l = IsTaskOf (work_of l.job) l.task
