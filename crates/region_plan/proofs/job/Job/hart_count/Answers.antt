use Rattle.std.proofs.Common.{◌∙◌, sym}
use Rattle.std.proofs.lemmas.List.{length-map}
use Rattle.region_plan.specs.Views.{items_seen}
use Rattle.region_plan.proofs.Harts.{seen_length}
use Rattle.region_plan.proofs.job.Job.hart_count.Goals as goal

-- src/job.rt:33:5
pub returns : goal.returns
returns c = c.hart_count.ensures ∙ sym (seen_length c.args.self.now.plan.harts.items _
    (length-map c.args.self.now.templates.items (λ t. items_seen t.items) ∙ c.args.self.now.same))
