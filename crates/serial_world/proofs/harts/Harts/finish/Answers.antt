-- The turns are of the hart, up to the one that finds it finished.
use Rattle.std.proofs.Common.{◌≡◌, ◌++◌, List}
use Rattle.std.specs.List.{AllByRecursion}
use Rattle.region_plan.specs.Views.{work_of}
use Rattle.world_face.specs.Events.{Event}
use Rattle.serial_world.specs.Running.{TakesAll, TakesTurn}
use Rattle.serial_world.proofs.Following.{all_at_end, all_more_of}
use Rattle.serial_world.proofs.Leading.{leads_more, under_way}
use Rattle.serial_world.proofs.harts.Harts.finish.Goals as goal

pub turn-requires-clause-running : goal.turn-requires-clause-running
turn-requires-clause-running c = under_way (work_of c.args.job.now) c.args.self.now c.turns.self (λ before added. AllByRecursion (λ (e : Event). e.hart ≡ c.args.hart) added) c.requires.running c.turns.invariant

pub turns-preserved : goal.turns-preserved
turns-preserved c =
    let all = λ (before added : List Event). AllByRecursion (λ (e : Event). e.hart ≡ c.args.hart) added in
    leads_more (work_of c.args.job.now) c.args.self.now c.turns.self c.turn.new.self all (TakesTurn c.args.hart c.in_ok-turn.field-0) all c.turns.invariant c.in_ok-turn.ensures.turn
    (λ before first then. all_more_of c.args.hart c.in_ok-turn.field-0 c.in-Event.place (before ++ first) first then c.in-Event.is)

pub returns : goal.returns
returns c =
    let all = λ (before added : List Event). AllByRecursion (λ (e : Event). e.hart ≡ c.args.hart) added in
    leads_more (work_of c.args.job.now) c.args.self.now c.turns.self c.turn.new.self all (TakesTurn c.args.hart c.in_ok-turn.field-0) (TakesAll c.args.hart) c.turns.invariant c.in_ok-turn.ensures.turn
    (λ before first then. all_at_end c.args.hart c.in_ok-turn.field-0 before first then c.in_default.not-Event)
