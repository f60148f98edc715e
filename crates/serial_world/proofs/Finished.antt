-- Whether a task is finished, as its test says it.
use Rattle.std.proofs.Common.{◌≡◌, ◌↔◌, IsTrue, Bool, true, false, refl}
use Rattle.hart_task.specs.declared.task.Phase as task
use Rattle.hart_task.specs.declared.task.Phase.TheVariants as tasks
use Rattle.hart_task.specs.Task.{finished}

pub finished_is : (phase : task.Phase) (told : Bool) → (IsTrue told ↔ (phase ≡ tasks.Finished)) → told ≡ finished phase
finished_is tasks.Between true h = let e : tasks.Between ≡ tasks.Finished = h.0 refl in cc
finished_is tasks.Between false h = refl
finished_is (tasks.Making m) true h = let e : tasks.Making m ≡ tasks.Finished = h.0 refl in cc
finished_is (tasks.Making m) false h = refl
finished_is (tasks.Handling g) true h = let e : tasks.Handling g ≡ tasks.Finished = h.0 refl in cc
finished_is (tasks.Handling g) false h = refl
finished_is tasks.Finished true h = refl
finished_is tasks.Finished false h = h.1 refl
