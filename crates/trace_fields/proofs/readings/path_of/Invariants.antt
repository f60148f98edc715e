use Rattle.std.proofs.Common.{◌≡◌, ◌+◌, ◌≤◌, ◌++◌, length, option_map}
use Rattle.trace_fields.specs.Parts.{parts_left}
use Rattle.trace_fields.specs.Readings.{all_of, field_parts, name_reading}
use Rattle.trace_fields.specs.Text.{slash}
use Rattle.trace_fields.proofs.readings.path_of.Given as goal

-- the labels so far, with those that are left, are those of the whole path
abbrev pub invariant-loop-label : goal.invariant-loop-label
invariant-loop-label l = record {
  short : length l.path.items ≤ 8;
  counted : length l.path.items + length (parts_left l.labels) ≡ length (field_parts slash l.field);
  told : all_of name_reading (field_parts slash l.field) ≡ option_map (λ rest. l.path.items ++ rest) (all_of name_reading (parts_left l.labels));
}

abbrev pub decreases-loop-label : goal.decreases-loop-label
decreases-loop-label l = length (parts_left l.labels)
