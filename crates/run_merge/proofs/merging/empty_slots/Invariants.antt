-- The slots, and those for the logs that are left, are the whole.
use Rattle.std.proofs.Common.{◌≡◌, ◌++◌, None, drop, replicate}
use Rattle.run_merge.specs.Slots.{event_count, logs_seen, slots_seen}
use Rattle.run_merge.proofs.merging.empty_slots.Given as goal

abbrev pub invariant-loop-log : goal.invariant-loop-log
invariant-loop-log l = slots_seen l.slots.items ++ replicate (event_count (logs_seen (drop l.log-index l.logs))) None
    ≡ replicate (event_count (logs_seen l.logs)) None
