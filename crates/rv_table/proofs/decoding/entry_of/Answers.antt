use Rattle.std.proofs.Common.{Some, None, sym, ap, ◌∙◌}
use Rattle.std.specs.Prelude.{option_map}
use Rattle.rv_fields.proofs.OneRow.{one_row}
use Rattle.rv_table.specs.Listing.{listed_entry, defined}
use Rattle.rv_table.proofs.Candidate.{IsOf, no_row, is_of_row}
use Rattle.rv_table.proofs.decoding.entry_of.Goals as goal

pub returns-in_err-candidate : goal.returns-in_err-candidate
returns-in_err-candidate c =
    let none = no_row c.args.word None c.in_err-candidate.ensures tt in
    rw c.from_residual.ensures (ap (option_map defined) (sym none))

pub returns-then-word-mask : goal.returns-then-word-mask
returns-then-word-mask c =
    let line = listed_entry c.line_of-entry.result in
    let ins = c.in_ok-candidate.field-0 in
    let of : IsOf c.args.word line = rw c.mask.ensures at c.if-word-mask.true in
    let agrees = (is_of_row c.args.word line ins c.line_of-entry.ensures).0 of in
    ap Some c.line_of-entry.ensures ∙ ap (option_map defined) (sym ((one_row c.args.word ins).1 agrees))

pub returns-else-word-mask : goal.returns-else-word-mask
returns-else-word-mask c =
    let line = listed_entry c.line_of-entry.result in
    let ins = c.in_ok-candidate.field-0 in
    let is = is_of_row c.args.word line ins c.line_of-entry.ensures in
    let none = no_row c.args.word (Some ins) c.in_ok-candidate.ensures (λ agrees. c.if-word-mask.false (rw c.mask.ensures (is.1 agrees))) in
    ap (option_map defined) (sym none)
