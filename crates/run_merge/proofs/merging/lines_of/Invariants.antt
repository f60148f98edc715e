-- The lines, and those of the slots that are left, are the whole.
use Rattle.std.proofs.Common.{◌≡◌, ◌++◌}
use Rattle.std.specs.Vec.Iter.{into_iter_items}
use Rattle.trace_text.specs.Views.{lines_seen}
use Rattle.run_merge.specs.Slots.{slots_lines, slots_seen}
use Rattle.run_merge.proofs.merging.lines_of.Given as goal

abbrev pub invariant-loop-slot : goal.invariant-loop-slot
invariant-loop-slot l = lines_seen l.lines.items ++ slots_lines (slots_seen (into_iter_items l.slot-iterator)) ≡ slots_lines (slots_seen l.fn.slots.items)
