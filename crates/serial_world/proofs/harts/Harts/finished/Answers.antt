-- A hart is finished where its events say so.
use Rattle.std.proofs.Common.{◌∙◌, arith}
use Rattle.hart_task.specs.Task.{task_seen}
use Rattle.serial_world.proofs.Turning.{task_at}
use Rattle.serial_world.proofs.Finished.{finished_is}
use Rattle.serial_world.proofs.harts.Harts.finished.Goals as goal

pub returns : goal.returns
returns c = λ work seed before runs.
    let t = c.index.result.now in
    let at = task_at c.args.hart c.from.result c.args.self.now.tasks.items t c.from.ensures (omega (arith, c.args.self.now.tasks.ok.0)) c.index.ensures in
    finished_is t.phase c.finished.result c.finished.ensures ∙ (runs.tasks c.args.hart (task_seen t) at).ended
