use Rattle.std.proofs.Common.{rules, ◌≡◌, Some}
use Rattle.trace_fields.specs.Letters.{access_letters}
use Rattle.trace_fields.specs.Readings.{letter_reading}
use Rattle.trace_fields.proofs.Backs.{kind_keeps_letter}
use Rattle.trace_fields.proofs.readings.access_of.Goals as goal

pub invariant_of-result : goal.invariant_of-result
invariant_of-result c =
    let field = c.in_ok-kind.kind.now in
    let told : letter_reading access_letters field ≡ Some c.in_ok-kind-2.kind = search rules in
    kind_keeps_letter field c.in_ok-kind-2.kind told
