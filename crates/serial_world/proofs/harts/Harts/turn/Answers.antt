-- The turn of one task is a turn of its hart among all.
use Rattle.std.proofs.Common.{◌<◌, arith, length}
use Rattle.std.proofs.lemmas.List.{length-map}
use Rattle.region_plan.specs.Views.{work_of}
use Rattle.hart_task.specs.Task.{task_seen}
use Rattle.serial_world.proofs.Turning.{TurnsTask, task_at, task_nearer, task_turns}
use Rattle.serial_world.proofs.harts.Harts.turn.Goals as goal

-- the hart has a task
within : (c : goal.After-turn-arg-1) → c.args.hart < length c.args.self.now.tasks.items
within c = let many = length-map c.args.self.now.tasks.items task_seen in omega (arith, many, c.requires.member, c.requires.running.1.1.count)

pub turn-requires-clause-task : goal.turn-requires-clause-task
turn-requires-clause-task c =
    let old = c.index_mut.result.now in
    let at = task_at c.args.hart c.from.result c.args.self.now.tasks.items old c.from.ensures (within c) c.index_mut.ensures.value in
    (c.requires.running.1.1.tasks c.args.hart (task_seen old) at).task

task_turned : (c : goal.After-self-1) → TurnsTask (work_of c.args.job.now) c.args.self.now.world.place c.turn.new.world.place c.args.hart c.from.result c.args.self.now.tasks.items c.index_mut.result.now c.turn.new.self
task_turned c = record {
  place = c.from.ensures;
  within = let many = length-map c.args.self.now.tasks.items task_seen in omega (arith, many, c.requires.member, c.requires.running.1.1.count);
  read = c.index_mut.ensures.value;
  stands = c.turn.ensures.task;
  number = c.turn.ensures.number;
  same_seed = c.turn.ensures.seed;
}

pub returns-clause-turn : goal.returns-clause-turn
returns-clause-turn c =
    task_turns (work_of c.args.job.now) c.args.self.now.world.place c.turn.new.world.place c.args.hart c.from.result c.args.self.now.tasks.items c.index_mut.result.now c.turn.new.self
    c.turn.result (task_turned c) c.turn.ensures.turn c.turn.ensures.nearer

pub returns-clause-nearer : goal.returns-clause-nearer
returns-clause-nearer c = λ place same.
    task_nearer (work_of c.args.job.now) c.args.self.now.world.place c.turn.new.world.place c.args.hart c.from.result c.args.self.now.tasks.items c.index_mut.result.now c.turn.new.self
    (task_turned c) (c.turn.ensures.nearer place same)
