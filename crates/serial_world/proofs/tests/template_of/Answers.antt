-- One request more.
use Rattle.std.proofs.Common.{◌≡◌, List, [], ◌∷◌, ◌++◌, ap, arith, length, refl, subst, sym}
use Rattle.std.specs.List.{AllByRecursion}
use Rattle.std.proofs.lemmas.List.{length-append}
use Rattle.region_plan.specs.declared.request.Item.{Item}
use Rattle.region_plan.specs.declared.request.Item.TheVariants.{One}
use Rattle.region_plan.specs.Rules.{IsMakeable}
use Rattle.region_plan.specs.Script.{ScriptItem, script_of}
use Rattle.region_plan.specs.Views.{items_seen}
use Rattle.hart_task.specs.Asking.{item_seen}
use Rattle.serial_world.proofs.Turning.{all_more}
use Rattle.serial_world.proofs.tests.template_of.Goals as goal

script_more : (items : List Item) (i : Item) → script_of (items_seen (items ++ i ∷ [])) ≡ script_of (items_seen items) ++ item_seen i ∷ []
script_more [] (One request) = refl
script_more (One request ∷ items) i = ap (λ l. item_seen (One request) ∷ l) (script_more items i)

pub loop-template-preserved : goal.loop-template-preserved
loop-template-preserved c =
    let items = c.loop-template.template.items in
    let script : List ScriptItem = script_of (items_seen items) in
    let more : script_of (items_seen c.push.new.self.items) ≡ script ++ item_seen c.item.result ∷ [] =
    subst (λ (l : List Item). script_of (items_seen l) ≡ script ++ item_seen c.item.result ∷ []) (sym c.in_ok-push.ensures.items) (script_more items c.item.result) in
    let many = length-append script (item_seen c.item.result ∷ []) in
    let same = ap length more in
    record {
      few = omega (arith, c.in_ok-push.ensures.len);
      many = omega (arith, c.in_ok-push.ensures.len, many, same, c.loop-template.invariant.many);
      makeable = subst (AllByRecursion IsMakeable) (sym more) (all_more IsMakeable script (item_seen c.item.result) c.loop-template.invariant.makeable c.item.ensures);
    }
