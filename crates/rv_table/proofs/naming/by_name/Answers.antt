use Rattle.std.proofs.Common.{◌≡◌, ℕ, List, Option, Some, None, sym, ap, ◌∙◌}
use Rattle.std.specs.Prelude.{option_map, find}
use Rattle.rv_fields.specs.RowTable.{ins_called}
use Rattle.rv_table.specs.declared.table.Entry.{Entry}
use Rattle.rv_table.specs.Listing.{listed_entry, has_name}
use Rattle.rv_table.proofs.OneTable.{IsLineOf, IsTable, first_is, ins_told, name_told}
use Rattle.rv_table.proofs.naming.by_name.Goals as goal

-- the first line that has the name is that of the instruction that has it
line_called : (name : List ℕ) (table : List Entry) (line : Option Entry) → IsTable table → line ≡ find (λ e. has_name name (listed_entry e)) table → IsLineOf line (ins_called name)
line_called name table line is found = ap (option_map listed_entry) found ∙ first_is (has_name name) table is

pub returns-clause-value : goal.returns-clause-value
returns-clause-value c =
    ins_told (Some c.in_ok-ins.field-0) (ins_called c.args.name.now) (line_called c.args.name.now c.entries.result.now _ c.entries.ensures (sym c.in_ok-ins.was ∙ c.first_named.ensures))

pub returns-clause-name : goal.returns-clause-name
returns-clause-name c i =
    name_told c.args.name.now (Some c.in_ok-ins.field-0) i (line_called c.args.name.now c.entries.result.now _ c.entries.ensures (sym c.in_ok-ins.was ∙ c.first_named.ensures))

pub returns-in_err-ins-clause-value : goal.returns-in_err-ins-clause-value
returns-in_err-ins-clause-value c =
    rw c.from_residual.ensures (ins_told None (ins_called c.args.name.now) (line_called c.args.name.now c.entries.result.now _ c.entries.ensures (sym c.in_err-ins.was ∙ c.first_named.ensures)))

pub returns-in_err-ins-clause-name : goal.returns-in_err-ins-clause-name
returns-in_err-ins-clause-name c i =
    rw c.from_residual.ensures (name_told c.args.name.now None i (line_called c.args.name.now c.entries.result.now _ c.entries.ensures (sym c.in_err-ins.was ∙ c.first_named.ensures)))
