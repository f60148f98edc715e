-- What the lines of the code's table say.
use Rattle.std.specs.Prelude.{ℕ, List, Bool}
use Rattle.std.specs.Str.{bytes_eq}
use Rattle.rv_fields.specs.declared.row_table.Ins.{Ins}
use Rattle.rv_fields.specs.RowTable.{Row, row_of}
use Rattle.rv_table.specs.declared.table.Entry.{Entry}

-- an instruction with its row
pub record Listed : Type 0 where
  pub ins : Ins
  pub row : Row

-- the instruction and the row of a line of the table
abbrev pub listed_entry : Entry → Listed
listed_entry entry = record { ins = entry.0; row = record { name = entry.2.now; form = entry.1; value = entry.3 } }

-- the instruction with the row that the manual gives it
abbrev pub defined : Ins → Listed
defined ins = record { ins = ins; row = row_of ins }

-- the row has the name
abbrev pub has_name : List ℕ → Listed → Bool
has_name name l = bytes_eq l.row.name name
