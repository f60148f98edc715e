-- So many empty slots were added.
use Rattle.std.proofs.Common.{◌≡◌, ◌++◌, None, replicate}
use Rattle.run_merge.specs.Slots.{slots_seen}
use Rattle.run_merge.proofs.merging.add_empty_slots.Given as goal

abbrev pub invariant-loop : goal.invariant-loop
invariant-loop l = slots_seen l.slots.items ≡ slots_seen l.initial.slots.items ++ replicate l.counter None
