use Rattle.std.proofs.Common.{◌≡◌, ◌≤◌, drop}
use Rattle.trace_text.specs.Text.{step_fields}
use Rattle.trace_replay.specs.Comparing.{compared_fields, fields_differ}
use Rattle.trace_replay.specs.Shown.{shown_seen}
use Rattle.trace_replay.proofs.comparing.step_difference.Given as goal

-- no field so far differs
abbrev pub invariant-loop-field : goal.invariant-loop-field
invariant-loop-field l = record {
  items : l.field-items ≡ compared_fields;
  within : l.field-index ≤ 8;
  same : fields_differ l.line compared_fields (step_fields (shown_seen l.told)) (step_fields (shown_seen l.found))
      ≡ fields_differ l.line (drop l.field-index compared_fields) (drop l.field-index (step_fields (shown_seen l.told))) (drop l.field-index (step_fields (shown_seen l.found)));
}
