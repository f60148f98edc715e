use Rattle.std.proofs.Common.{◌∙◌, sym}
use Rattle.std.proofs.lemmas.Bool.{both_ways}
use Rattle.trace_fields.proofs.Numerals.{wide_read, wide_unread}
use Rattle.trace_fields.proofs.numbers.wide_hex_of.Goals as goal
use Rattle.trace_fields.proofs.numbers.wide_hex_of.Goals.{else-field-width-via-then-field-width+then-not-starts_with+else-is_lower, else-field-width-via-then-field-width+else-not-starts_with, else-field-width-via-else-field-width}

pub returns-then-is_lower : goal.returns-then-is_lower
returns-then-is_lower c =
    wide_read c.args.width c.requires.some c.requires.narrow c.args.field.now c.parsed.result c.if-field-width.true
    (sym c.starts_with.ensures.value ∙ c.if-not-starts_with.true) (sym c.is_lower.ensures ∙ c.if-is_lower.true) c.parsed.ensures

pub returns-else-field-width : goal.returns-else-field-width
returns-else-field-width c =
    wide_unread c.args.width c.requires.some c.requires.narrow c.args.field.now (elim c.else-field-width.branch [
      | else-field-width-via-then-field-width+then-not-starts_with+else-is_lower w ↦ λ long other. sym w.is_lower.ensures ∙ w.if-is_lower.false
      | else-field-width-via-then-field-width+else-not-starts_with w ↦
          λ long other. absurd (both_ways w.starts_with.result (w.starts_with.ensures.value ∙ other) w.if-not-starts_with.false)
      | else-field-width-via-else-field-width w ↦ λ long other. absurd (w.if-field-width.false long)
    ])
