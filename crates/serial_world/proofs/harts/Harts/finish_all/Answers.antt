-- One hart after another.
use Rattle.std.proofs.Common.{ℕ, ◌+◌, ◌≡◌, arith, subst}
use Rattle.region_plan.specs.Plan.{hart_count}
use Rattle.region_plan.specs.Views.{work_of}
use Rattle.serial_world.specs.Running.{Leads, TakesAll, TakesAllBelow}
use Rattle.serial_world.proofs.Following.{all_below_more}
use Rattle.serial_world.proofs.Leading.{leads_more, under_way}
use Rattle.serial_world.proofs.harts.Harts.finish_all.Goals as goal

pub finish-requires-clause-running : goal.finish-requires-clause-running
finish-requires-clause-running c = under_way (work_of c.args.job.now) c.args.self.now c.loop-hart.self (TakesAllBelow c.loop-hart.hart) c.requires.running c.loop-hart.invariant

pub loop-hart-preserved : goal.loop-hart-preserved
loop-hart-preserved c =
    leads_more (work_of c.args.job.now) c.args.self.now c.loop-hart.self c.finish.new.self (TakesAllBelow c.loop-hart.hart) (TakesAll c.loop-hart.hart) (TakesAllBelow (c.loop-hart.hart + 1))
    c.loop-hart.invariant c.in_ok-finish.ensures (all_below_more c.loop-hart.hart)

pub returns : goal.returns
returns c =
    let all : c.loop-hart.hart ≡ hart_count (work_of c.args.job.now) = omega arith in
    subst (λ (n : ℕ). Leads (work_of c.args.job.now) c.args.self.now c.loop-hart.self (TakesAllBelow n)) all c.loop-hart.invariant
