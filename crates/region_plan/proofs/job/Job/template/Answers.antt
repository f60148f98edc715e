use Rattle.std.proofs.Common.{◌≡◌, ◌<◌, ◌∙◌, ap, sym, length, map, ℕ, arith}
use Rattle.std.proofs.lemmas.List.{length-map, get_or-map}
use Rattle.region_plan.specs.declared.job.Job.{Job}
use Rattle.region_plan.specs.Plan.{hart_count}
use Rattle.region_plan.specs.Request.{no_items}
use Rattle.region_plan.specs.Views.{items_seen, work_of}
use Rattle.region_plan.proofs.Harts.{seen_length, seen_template}
use Rattle.region_plan.proofs.job.Job.template.Goals as goal

-- as many templates as harts
same : (job : Job) → length (map (λ t. items_seen t.items) job.templates.items) ≡ length job.plan.harts.items
same job = length-map job.templates.items (λ t. items_seen t.items) ∙ job.same

small : (job : Job) (hart : ℕ) → hart < hart_count (work_of job) → hart < length job.plan.harts.items
small job hart member = omega (arith, member, seen_length job.plan.harts.items _ (same job))

-- src/job.rt:45:9
pub index-requires : goal.index-requires
index-requires c = omega (arith, small c.args.self.now c.args.hart c.requires, c.args.self.now.same)

-- src/job.rt:41:5
pub returns : goal.returns
returns c =
    ap items_seen (c.as_slice.ensures.value ∙ ap (λ t. t.items) c.index.ensures)
    ∙ sym (get_or-map (λ t. items_seen t.items) c.args.self.now.templates.items c.args.hart c.index.result.now no_items (omega (arith, small c.args.self.now c.args.hart c.requires, c.args.self.now.same)))
    ∙ sym (seen_template c.args.self.now.plan.harts.items _ c.args.hart (same c.args.self.now) (small c.args.self.now c.args.hart c.requires))
