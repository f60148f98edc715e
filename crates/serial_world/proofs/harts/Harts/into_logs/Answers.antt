-- Each task is finished.
use Rattle.std.proofs.Common.{arith, length, map, refl}
use Rattle.std.proofs.lemmas.Iterator.Adapters.{YieldsList-from_vec}
use Rattle.std.proofs.lemmas.Iterator.Consumers.{YieldsList-turn}
use Rattle.hart_task.specs.Task.{task_seen}
use Rattle.serial_world.proofs.Leaving.{finished_at}
use Rattle.serial_world.proofs.Turning.{task_at}
use Rattle.serial_world.proofs.harts.Harts.into_logs.Goals as goal

pub into_log-requires : goal.into_log-requires
into_log-requires c =
    let tasks = c.args.self.tasks.items in
    let all = c.into_iter-task-iterator.ensures.into_iter_gives in
    let yields = YieldsList-from_vec {s = c.into_iter-task-iterator.result} tasks all.0 (omega (arith, all.1, c.args.self.tasks.ok.0)) in
    let turn = YieldsList-turn yields c.loop-task.yielded c.loop-task.task-iterator c.loop-task.yielded_by c.next.result c.next.new.self c.in-Some.task c.in-Some.is c.next.ensures.steps in
    let place = length c.loop-task.yielded in
    finished_at (map task_seen tasks) place (task_seen c.in-Some.task) c.requires (task_at place place tasks c.in-Some.task refl turn.0 turn.1)
