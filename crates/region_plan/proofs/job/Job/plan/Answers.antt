use Rattle.std.proofs.Common.{◌∙◌}
use Rattle.std.proofs.lemmas.List.{length-map}
use Rattle.region_plan.specs.Views.{items_seen}
use Rattle.region_plan.proofs.Harts.{planned}
use Rattle.region_plan.proofs.job.Job.plan.Goals as goal

-- src/job.rt:27:5
pub returns-clause-planned : goal.returns-clause-planned
returns-clause-planned c = planned c.args.self.now.plan.harts.items _ (length-map c.args.self.now.templates.items (λ t. items_seen t.items) ∙ c.args.self.now.same)
