-- One hart more stands before its first event.
use Rattle.std.proofs.Common.{ℕ, ◌+◌, ◌++◌, ◌≡◌, List, [], ◌∷◌, arith, map, subst, sym}
use Rattle.region_plan.specs.Plan.{hart_count}
use Rattle.region_plan.specs.Views.{work_of}
use Rattle.hart_task.specs.declared.task.HartTask.{HartTask}
use Rattle.hart_task.specs.Task.{task_seen}
use Rattle.serial_world.specs.Running.{Running}
use Rattle.serial_world.proofs.Opening.{Begun, all_begun, one_begun}
use Rattle.serial_world.proofs.harts.Harts.new.Goals as goal

pub loop-hart-preserved : goal.loop-hart-preserved
loop-hart-preserved c =
    let work = work_of c.args.job.now in
    let more : c.push.new.self.items ≡ c.loop-hart.tasks.items ++ c.new.result ∷ [] = c.in_ok-push.ensures.items in
    subst (λ (l : List HartTask). Begun work c.args.seed l (c.loop-hart.hart + 1)) (sym more)
    (one_begun work c.args.seed c.loop-hart.hart c.loop-hart.tasks.items c.new.result c.loop-hart.invariant (c.new.ensures.task work c.requires (omega arith)) c.new.ensures.number c.new.ensures.seed c.new.ensures.empty)

pub returns : goal.returns
returns c =
    let work = work_of c.args.job.now in
    let all : c.loop-hart.hart ≡ hart_count work = omega arith in
    let begun : Begun work c.args.seed c.loop-hart.tasks.items (hart_count work) = subst (λ (n : ℕ). Begun work c.args.seed c.loop-hart.tasks.items n) all c.loop-hart.invariant in
    subst (λ (n : ℕ). Running work c.args.seed (map task_seen c.loop-hart.tasks.items) n []) (sym c.new-2.ensures) (all_begun work c.args.seed c.loop-hart.tasks.items c.requires begun)
