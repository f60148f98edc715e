-- An event is placed, and fewer are left.
use Rattle.std.proofs.Common.{◌≡◌, ◌∷◌, List, Option, length, ap, sym, subst, ◌∙◌}
use Rattle.std.specs.Prelude.{set, Some}
use Rattle.world_face.specs.declared.event.Event as events
use Rattle.world_face.specs.declared.event.Placed.{Placed}
use Rattle.world_face.specs.Views.{all_placed, event_seen}
use Rattle.run_merge.specs.Slots.{FitIn, slots_seen, slotted}
use Rattle.run_merge.proofs.merging.place_events.Goals as goal

-- what is left of the events, and the slots, before and behind one
fit_less : (all left : List Placed) (p : Placed) (old new : List (Option events.Event)) → all ≡ p ∷ left → length new ≡ length old
    → FitIn (length old) (all_placed all) → FitIn (length new) (all_placed left)
fit_less all left p old new steps long fit =
    let here : FitIn (length old) (all_placed (p ∷ left)) = subst (λ ps. FitIn (length old) (all_placed ps)) steps fit in
    subst (λ n. FitIn n (all_placed left)) (sym long) here.1

slotted_more : (all left : List Placed) (p : Placed) (old new : List (Option events.Event)) → all ≡ p ∷ left
    → slots_seen new ≡ set (slots_seen old) p.place (Some (event_seen p.event))
    → slotted (all_placed left) (slots_seen new) ≡ slotted (all_placed all) (slots_seen old)
slotted_more all left p old new steps is = ap (slotted (all_placed left)) is ∙ ap (λ ps. slotted (all_placed ps) (slots_seen old)) (sym steps)

pub loop-placed-preserved : goal.loop-placed-preserved
loop-placed-preserved c =
    let steps = c.in-Some.ensures.steps.0 in
    let was = c.loop-placed.invariant in
    record {
      fit = fit_less _ _ _ c.loop-placed.slots c.place_event.new.slots steps c.place_event.auto.slots was.fit;
      slots = slotted_more _ _ _ c.loop-placed.slots c.place_event.new.slots steps c.place_event.ensures ∙ was.slots;
    }
