-- Plain harts keep the rules.
use Rattle.std.proofs.Common.{◌≡◌, ◌≤◌, ◌∙◌, Global, List, Vec, [], ◌∷◌, ◌++◌, ap, arith, length, map, refl, subst, sym}
use Rattle.std.specs.List.{AllByRecursion}
use Rattle.std.proofs.lemmas.List.{length-append, length-map, map-append}
use Rattle.rv_fields.specs.declared.mode.Mode.TheVariants.{M}
use Rattle.rv_fields.specs.Play.{most_harts}
use Rattle.region_plan.specs.declared.plan.HartPlan.{HartPlan}
use Rattle.region_plan.specs.declared.request.Item.{Item}
use Rattle.region_plan.specs.Request.{Items}
use Rattle.region_plan.specs.Rules.{IsPlainHart, KeepsRules}
use Rattle.region_plan.specs.Views.{harts_seen, items_seen, planned_hart, work_of, work_with}
use Rattle.region_plan.proofs.Harts.{seen_length}
use Rattle.serial_world.proofs.Turning.{all_more}
use Rattle.serial_world.proofs.tests.job_of.Goals as goal

abbrev all_seen : List (Vec Item Global) → List Items
all_seen templates = map (λ (t : Vec Item Global). items_seen t.items) templates

harts_more : (harts : List HartPlan) (templates : List Items) (hart : HartPlan) (template : Items) → length templates ≡ length harts
    → harts_seen (harts ++ hart ∷ []) (templates ++ template ∷ []) ≡ harts_seen harts templates ++ planned_hart hart template ∷ []
harts_more [] [] hart template same = refl
harts_more [] (t ∷ ts) hart template same = absurd cc
harts_more (h ∷ hs) [] hart template same = absurd cc
harts_more (h ∷ hs) (t ∷ ts) hart template same = ap (λ l. planned_hart h t ∷ l) (harts_more hs ts hart template cc)

plain_more : (harts : List HartPlan) (templates : List (Vec Item Global)) (hart : HartPlan) (template : Vec Item Global) → length templates ≡ length harts
    → AllByRecursion IsPlainHart (harts_seen harts (all_seen templates)) → IsPlainHart (planned_hart hart (items_seen template.items))
    → AllByRecursion IsPlainHart (harts_seen (harts ++ hart ∷ []) (all_seen (templates ++ template ∷ [])))
plain_more harts templates hart template same plain here =
    let split : all_seen (templates ++ template ∷ []) ≡ all_seen templates ++ items_seen template.items ∷ [] = map-append (λ (t : Vec Item Global). items_seen t.items) templates (template ∷ []) in
    let many : length (all_seen templates) ≡ length harts = length-map templates (λ (t : Vec Item Global). items_seen t.items) ∙ same in
    let more = harts_more harts (all_seen templates) hart (items_seen template.items) many in
    subst (λ l. AllByRecursion IsPlainHart (harts_seen (harts ++ hart ∷ []) l)) (sym split)
    (subst (AllByRecursion IsPlainHart) (sym more) (all_more IsPlainHart (harts_seen harts (all_seen templates)) (planned_hart hart (items_seen template.items)) plain here))

pub loop-count-preserved : goal.loop-count-preserved
loop-count-preserved c =
    let hart : HartPlan = record { mode = M; code_pages = 1 } in
    let old_harts = c.loop-count.harts.items in
    let old_templates = c.loop-count.templates.items in
    let template = c.in_ok-template_of.field-0 in
    let inv = c.loop-count.invariant in
    let harts : c.push.new.self.items ≡ old_harts ++ hart ∷ [] = c.in_ok-push.ensures.items in
    let templates : c.push-in-loop-count.new.self.items ≡ old_templates ++ template ∷ [] = c.in_ok-push-2.ensures.items in
    let many_harts = length-append old_harts (hart ∷ []) in
    let many_templates = length-append old_templates (template ∷ []) in
    let plain = plain_more old_harts old_templates hart template (inv.templates ∙ sym inv.harts) inv.plain c.in_ok-template_of.ensures in
    record {
      harts = ap length harts ∙ omega (arith, many_harts, inv.harts);
      templates = ap length templates ∙ omega (arith, many_templates, inv.templates);
      plain = subst (λ (l : List (Vec Item Global)). AllByRecursion IsPlainHart (harts_seen c.push.new.self.items (all_seen l))) (sym templates)
          (subst (λ (l : List HartPlan). AllByRecursion IsPlainHart (harts_seen l (all_seen (old_templates ++ template ∷ [])))) (sym harts) plain);
    }

keeps : (harts : List HartPlan) (templates : List Items) → length templates ≡ length harts → 1 ≤ length harts → length harts ≤ most_harts → AllByRecursion IsPlainHart (harts_seen harts templates) → KeepsRules (work_with (harts_seen harts templates))
keeps harts templates same some most plain =
    let many = seen_length harts templates same in
    record { some = omega (arith, many, some); most = omega (arith, many, most); harts = plain; rest = refl }

pub returns : goal.returns
returns c =
    let harts : c.new.result.harts.items ≡ c.loop-count.harts.items = ap (λ (hs : Vec HartPlan Global). hs.items) c.new.ensures in
    let templates = all_seen c.loop-count.templates.items in
    let work : work_of c.new-2.result ≡ work_with (harts_seen c.loop-count.harts.items templates) = c.new-2.ensures.work ∙ ap (λ (hs : List HartPlan). work_with (harts_seen hs templates)) harts in
    let many = length-map c.loop-count.templates.items (λ (t : Vec Item Global). items_seen t.items) in
    subst KeepsRules (sym work)
    (keeps c.loop-count.harts.items templates (many ∙ c.loop-count.invariant.templates ∙ sym c.loop-count.invariant.harts) (omega (arith, c.loop-count.invariant.harts)) (omega (arith, c.loop-count.invariant.harts)) c.loop-count.invariant.plain)
