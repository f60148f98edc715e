use Rattle.std.proofs.Common.{◌≡◌, ◌+◌, ◌≤◌, ◌++◌, length, option_map}
use Rattle.trace_fields.specs.Parts.{parts_left}
use Rattle.trace_fields.specs.Readings.{all_of, entry_reading, field_parts}
use Rattle.trace_fields.specs.Text.{comma}
use Rattle.trace_fields.proofs.readings.trail_of.Given as goal

-- the entries so far, with those that are left, are those of the whole trail
abbrev pub invariant-loop-entry : goal.invariant-loop-entry
invariant-loop-entry l = record {
  short : length l.trail ≤ 4;
  counted : length l.trail + length (parts_left l.entries) ≡ length (field_parts comma l.field);
  told : all_of entry_reading (field_parts comma l.field) ≡ option_map (λ rest. l.trail ++ rest) (all_of entry_reading (parts_left l.entries));
}

abbrev pub decreases-loop-entry : goal.decreases-loop-entry
decreases-loop-entry l = length (parts_left l.entries)
