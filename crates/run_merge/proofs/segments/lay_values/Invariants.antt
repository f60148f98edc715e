-- The bytes, and those of the values that are left, are the whole.
use Rattle.std.proofs.Common.{◌≡◌, ◌++◌, drop}
use Rattle.run_merge.specs.Image.{value_bytes}
use Rattle.run_merge.proofs.segments.lay_values.Given as goal

abbrev pub invariant-loop-value : goal.invariant-loop-value
invariant-loop-value l = l.bytes.items ++ value_bytes (drop l.value-index l.values) ≡ l.initial.bytes.items ++ value_bytes l.values
