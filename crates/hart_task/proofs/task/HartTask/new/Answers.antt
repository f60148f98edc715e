-- A task that holds nothing yet stands at the start of its hart's machine.
use Rattle.std.proofs.Common.{ap, ◌∙◌}
use Rattle.choice_tree.specs.Draws.{Draws}
use Rattle.world_face.specs.Views.{all_placed}
use Rattle.hart_task.proofs.Starting.{stands_new}
use Rattle.hart_task.proofs.task.HartTask.new.Goals as goal

pub returns-clause-task : goal.returns-clause-task
returns-clause-task c = λ work keeps member. stands_new work c.args.hart _ _ c.new.result _ _ _ _ keeps member c.code_start.ensures c.start_csrs.ensures
    (ap (λ (d : Draws). d.stream) c.new.ensures ∙ c.stream_of.ensures) (ap (λ (d : Draws). d.drawn) c.new.ensures)
    c.new-4.ensures.initial c.new-4.ensures.present (ap all_placed c.new-2.ensures.items) c.new-3.ensures.items
