-- The log of a finished task is that of a finished run.
use Rattle.hart_task.specs.Task.{task_seen}
use Rattle.hart_task.proofs.Starting.{log_of}
use Rattle.hart_task.proofs.task.HartTask.into_log.Goals as goal

pub returns-clause-run : goal.returns-clause-run
returns-clause-run c = λ work rules task. log_of work (task_seen c.args.self) rules task c.requires
