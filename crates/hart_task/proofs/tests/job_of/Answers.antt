-- A job of one hart keeps the rules, where its items can be made.
use Rattle.std.proofs.Common.{suc, ◌≡◌, ◌≤◌, List, [], ◌∷◌, length, map, Vec, Global, refl, sym, ap, subst, ◌∙◌, arith}
use Rattle.std.specs.List.{AllByRecursion}
use Rattle.rv_fields.specs.declared.mode.Mode.TheVariants.{M}
use Rattle.region_plan.specs.declared.plan.HartPlan.{HartPlan}
use Rattle.region_plan.specs.declared.request.Item.{Item}
use Rattle.region_plan.specs.declared.request.Item.TheVariants.{One}
use Rattle.region_plan.specs.Rules.{IsMakeable, KeepsRules}
use Rattle.region_plan.specs.Script.{script_of}
use Rattle.region_plan.specs.Views.{harts_seen, items_seen, planned_hart, work_of, work_with}
use Rattle.hart_task.specs.Asking.{item_seen}
use Rattle.hart_task.proofs.tests.job_of.Goals as goal

makeable : (items : List Item) → AllByRecursion (λ item. IsMakeable (item_seen item)) items → AllByRecursion IsMakeable (script_of (items_seen items))
makeable [] all = tt
makeable (One request ∷ items) all = (all.0, makeable items all.1)

same_length : (items : List Item) → length (script_of (items_seen items)) ≡ length items
same_length [] = refl
same_length (One request ∷ items) = ap suc (same_length items)

keeps : (items : List Item) → length items ≤ 1000 → AllByRecursion (λ item. IsMakeable (item_seen item)) items
    → KeepsRules (work_with (planned_hart (record { mode = M; code_pages = 1 }) (items_seen items) ∷ []))
keeps items room all = record {
  some = omega arith;
  most = omega arith;
  harts = (record { plain = refl; some_pages = omega arith; most_pages = omega arith; room = omega (arith, room, same_length items); requests = makeable items all }, tt);
  rest = refl;
}

pub returns : goal.returns
returns c =
    let harts : c.new.result.harts.items ≡ record { mode = M; code_pages = 1 } ∷ [] = ap (λ (hs : Vec HartPlan Global). hs.items) c.new.ensures ∙ c.in_ok-vec.ensures.items in
    let work : work_of c.new-2.result ≡ work_with (planned_hart (record { mode = M; code_pages = 1 }) (items_seen c.args.template.items) ∷ []) =
    c.new-2.ensures.work
    ∙ ap (λ (hs : List HartPlan). work_with (harts_seen hs (map (λ t. items_seen t.items) c.in_ok-vec-2.field-0.items))) harts
    ∙ ap (λ (ts : List (Vec Item Global)). work_with (harts_seen (record { mode = M; code_pages = 1 } ∷ []) (map (λ t. items_seen t.items) ts))) c.in_ok-vec-2.ensures.items in
    subst KeepsRules (sym work) (keeps c.args.template.items c.requires.room c.requires.requests)
