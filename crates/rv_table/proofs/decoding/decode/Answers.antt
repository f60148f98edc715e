use Rattle.std.proofs.Common.{◌≡◌, Some, None, sym, ap, ◌∙◌}
use Rattle.std.specs.Prelude.{option_map}
use Rattle.rv_fields.specs.Decode.{ins_at, fields_of}
use Rattle.rv_table.specs.Listing.{listed_entry}
use Rattle.rv_table.proofs.OneTable.{decoded_as, IsLineOf, fields_told, row_told}
use Rattle.rv_table.proofs.decoding.decode.Goals as goal

pub returns-clause-value : goal.returns-clause-value
returns-clause-value c =
    let line = c.in_ok-ins.field-0 in
    let is : IsLineOf (Some line) (ins_at c.args.word) = ap (option_map listed_entry) (sym c.in_ok-ins.was) ∙ c.entry_of.ensures in
    let ops : c.operands.result ≡ fields_of line.1 c.args.word = cc in
    ap (λ o. Some (decoded_as line.0 o)) ops ∙ fields_told c.args.word (Some line) (ins_at c.args.word) is

pub returns-clause-row : goal.returns-clause-row
returns-clause-row c i =
    let line = c.in_ok-ins.field-0 in
    let is : IsLineOf (Some line) (ins_at c.args.word) = ap (option_map listed_entry) (sym c.in_ok-ins.was) ∙ c.entry_of.ensures in
    row_told c.args.word (Some line) i is

pub returns-in_err-ins-clause-value : goal.returns-in_err-ins-clause-value
returns-in_err-ins-clause-value c =
    let is : IsLineOf None (ins_at c.args.word) = ap (option_map listed_entry) (sym c.in_err-ins.was) ∙ c.entry_of.ensures in
    rw c.from_residual.ensures (fields_told c.args.word None (ins_at c.args.word) is)

pub returns-in_err-ins-clause-row : goal.returns-in_err-ins-clause-row
returns-in_err-ins-clause-row c i =
    let is : IsLineOf None (ins_at c.args.word) = ap (option_map listed_entry) (sym c.in_err-ins.was) ∙ c.entry_of.ensures in
    rw c.from_residual.ensures (row_told c.args.word None i is)
