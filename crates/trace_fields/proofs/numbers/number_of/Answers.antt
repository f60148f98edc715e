use Rattle.std.proofs.Common.{◌∙◌, sym}
use Rattle.std.proofs.lemmas.Bool.{and_left, and_right}
use Rattle.trace_fields.specs.Numbers.{is_plain, is_lower}
use Rattle.trace_fields.proofs.Numerals.{number_read, number_unread}
use Rattle.trace_fields.proofs.numbers.number_of.Goals as goal
use Rattle.trace_fields.proofs.numbers.number_of.Goals.{else-is_plain-via-then-is_plain+else-is_lower, else-is_plain-via-else-is_plain}

pub returns-then-is_lower : goal.returns-then-is_lower
returns-then-is_lower c =
    number_read c.args.base c.requires.some c.requires.most c.args.field.now c.parsed.result (sym c.is_plain.ensures ∙ c.if-is_plain.true)
    (sym c.is_lower.ensures ∙ c.if-is_lower.true) c.parsed.ensures

pub returns-else-is_plain : goal.returns-else-is_plain
returns-else-is_plain c =
    let field = c.args.field.now in
    number_unread c.args.base c.requires.some c.requires.most field (elim c.else-is_plain.branch [
      | else-is_plain-via-then-is_plain+else-is_lower w ↦ and_right (is_plain field) (is_lower field) (sym w.is_lower.ensures ∙ w.if-is_lower.false)
      | else-is_plain-via-else-is_plain w ↦ and_left (is_plain field) (is_lower field) (sym c.is_plain.ensures ∙ w.if-is_plain.false)
    ])
