-- The events that are left fit, and once they are placed the slots are the whole.
use Rattle.std.proofs.Common.{◌≡◌, length}
use Rattle.std.specs.Vec.Iter.{into_iter_items}
use Rattle.world_face.specs.Views.{all_placed}
use Rattle.run_merge.specs.Slots.{FitIn, slots_seen, slotted}
use Rattle.run_merge.proofs.merging.place_events.Given as goal

abbrev pub invariant-loop-placed : goal.invariant-loop-placed
invariant-loop-placed l = record {
  fit : FitIn (length l.slots) (all_placed (into_iter_items l.placed-iterator));
  slots : slotted (all_placed (into_iter_items l.placed-iterator)) (slots_seen l.slots) ≡ slotted (all_placed l.fn.events.items) (slots_seen l.fn.slots);
}
