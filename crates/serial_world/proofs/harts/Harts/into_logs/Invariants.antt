-- The logs so far are those of the tasks so far.
use Rattle.std.proofs.Common.{◌≡◌, map}
use Rattle.hart_task.specs.Log.{log_seen}
use Rattle.hart_task.specs.Task.{TaskSeen, task_seen}
use Rattle.serial_world.proofs.harts.Harts.into_logs.Given as goal

abbrev pub invariant-loop-task : goal.invariant-loop-task
invariant-loop-task l = record {
  can_next : (goal.iterator-loop-task).can_next l.task-iterator;
  is_finite : (goal.iterator-loop-task).is_finite l.task-iterator;
  logs : map log_seen l.logs.items ≡ map (λ (t : TaskSeen). t.log) (map task_seen l.yielded);
}
