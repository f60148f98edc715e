-- Harts with their templates, by their numbers.
use Rattle.std.proofs.Common.{ℕ, zero, suc, ◌<◌, ◌≡◌, List, [], ◌∷◌, length, get_or, refl, ap, sym, ◌∙◌, arith}
use Rattle.region_plan.specs.declared.plan.HartPlan as code
use Rattle.region_plan.specs.Plan.{HartPlan, no_hart}
use Rattle.region_plan.specs.Request.{Items, no_items}
use Rattle.region_plan.specs.Views.{IsPlannedBy, harts_seen, plan_at, work_with}

pub seen_length : (harts : List code.HartPlan) (templates : List Items) → length templates ≡ length harts → length (harts_seen harts templates) ≡ length harts
seen_length [] templates e = refl
seen_length (hart ∷ harts) [] e = absurd cc
seen_length (hart ∷ harts) (template ∷ templates) e = ap suc (seen_length harts templates cc)

below : (h n : ℕ) → suc h < suc n → h < n
below h n small = omega (arith, small)

-- a hart is that of the plan, with the template of its number
pub seen_hart : (harts : List code.HartPlan) (templates : List Items) (h : ℕ) → length templates ≡ length harts → h < length harts
    → get_or (harts_seen harts templates) h no_hart ≡ record (plan_at harts h) { template = get_or templates h no_items }
seen_hart [] templates h e small = absurd (omega (arith, small))
seen_hart (hart ∷ harts) [] h e small = absurd cc
seen_hart (hart ∷ harts) (template ∷ templates) zero e small = refl
seen_hart (hart ∷ harts) (template ∷ templates) (suc h) e small =
    let tails : length templates ≡ length harts = cc in seen_hart harts templates h tails (below h (length harts) small)

pub seen_template : (harts : List code.HartPlan) (templates : List Items) (h : ℕ) → length templates ≡ length harts → h < length harts
    → (get_or (harts_seen harts templates) h no_hart).template ≡ get_or templates h no_items
seen_template harts templates h e small = ap (λ (plan : HartPlan). plan.template) (seen_hart harts templates h e small)

pub planned : (harts : List code.HartPlan) (templates : List Items) → length templates ≡ length harts → IsPlannedBy harts (work_with (harts_seen harts templates))
planned harts templates e = record {
  count = seen_length harts templates e;
  same = λ h small. (
      let is = seen_hart harts templates h e small in
      is ∙ ap (λ (items : Items). record (plan_at harts h) { template = items }) (sym (ap (λ (plan : HartPlan). plan.template) is)));
}
