-- The logs that are left fit, and with them the slots and what the harts bring are the whole.
use Rattle.std.proofs.Common.{◌≡◌, ◌++◌, length, map}
use Rattle.std.specs.List.{AllByRecursion}
use Rattle.std.specs.Vec.Iter.{into_iter_items}
use Rattle.hart_task.specs.Log.{LogSeen}
use Rattle.run_merge.specs.Run.{images_of, log_image}
use Rattle.run_merge.specs.Slots.{FitIn, all_slotted, logs_seen, slots_seen}
use Rattle.run_merge.proofs.merging.programs_of.Given as goal

abbrev pub invariant-loop-events : goal.invariant-loop-events
invariant-loop-events l = record {
  fit : AllByRecursion (λ (log : LogSeen). FitIn (length l.slots) log.events) (logs_seen (into_iter_items l.events-iterator));
  slots : all_slotted (logs_seen (into_iter_items l.events-iterator)) (slots_seen l.slots) ≡ all_slotted (logs_seen l.fn.logs.items) (slots_seen l.fn.slots);
  images : images_of l.harts.items ++ map log_image (logs_seen (into_iter_items l.events-iterator)) ≡ map log_image (logs_seen l.fn.logs.items);
}
