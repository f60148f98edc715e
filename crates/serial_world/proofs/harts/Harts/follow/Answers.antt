-- An entry of a hart that is there is its turn.
use Rattle.std.proofs.Common.{◌<◌, arith}
use Rattle.region_plan.specs.Plan.{hart_count}
use Rattle.region_plan.specs.Views.{work_of}
use Rattle.serial_world.specs.Running.{TakesEntry, TakesTurn}
use Rattle.serial_world.proofs.Following.{entry_taken}
use Rattle.serial_world.proofs.Leading.{leads_as}
use Rattle.serial_world.proofs.harts.Harts.follow.Goals as goal

pub returns-in_ok-turn : goal.returns-in_ok-turn
returns-in_ok-turn c =
    let harts = hart_count (work_of c.args.job.now) in
    let member : c.args.hart < harts = omega arith in
    leads_as (work_of c.args.job.now) c.args.self.now c.turn.new.self (TakesTurn c.args.hart c.in_ok-turn.field-0) (TakesEntry harts c.args.hart) c.in_ok-turn.ensures.turn
    (λ before added takes. entry_taken harts c.args.hart c.in_ok-turn.field-0 before added member takes)
