-- Texts of lines: each line is ended by a newline.
-- Where a text isn't in its form, its fault is the first field that is wrong, missing or too many in the first such line.
use Rattle.std.specs.Prelude.{ℕ, ◌+◌, ◌&&◌, ◌==◌, nat_lt, List, [], ◌∷◌, length, Option, Some, None, if◌then◌else◌}
use Rattle.std.specs.Option.{unwrap_or}
use Rattle.std.specs.List.{slice_split}
use Rattle.trace_fields.specs.Fields.{FieldTest, Place, fields_in, first_wrong}

-- The lines of a text, and last what stands behind the last newline.
abbrev pub lines_of_text : List ℕ → List (List ℕ)
lines_of_text text = slice_split (λ b. b == 0x0a) text

-- A form of texts, for what is known behind some of the lines.
pub record Form (Known : Type 0) : Type 0 where
  -- the tests of the next line's fields, which may depend on these fields
  pub tests : Known → List (List ℕ) → List FieldTest
  -- what is known behind the next line, where its fields pass
  pub after : Known → List (List ℕ) → Known

-- the wrong field of a line that a newline ends
abbrev pub wrong_in : {Known : Type 0} → Form Known → Known → List (List ℕ) → Option ℕ
wrong_in form known fields = first_wrong 1 (form.tests known fields) fields

-- The wrong field of a line that no newline ends: where no other is wrong, the one behind its last.
abbrev pub wrong_at_end : {Known : Type 0} → Form Known → Known → List (List ℕ) → ℕ
wrong_at_end form known fields = unwrap_or (wrong_in form known fields) (length fields + 1)

-- the first of a fault in a line and of one in the lines behind it
abbrev pub first_fault : ℕ → Option ℕ → Option Place → Option Place
first_fault line (Some field) behind = Some (record { line = line; field = field })
first_fault line None behind = behind

-- The fault of the lines from the one with this number on. Nothing behind the last newline is no line, but every text has a first line.
abbrev pub fault_from : {Known : Type 0} → Form Known → Known → ℕ → List (List ℕ) → Option Place
fault_from form known line [] = None
fault_from form known line (last ∷ []) =
    if length last == 0 && nat_lt 1 line then None else Some (record { line = line; field = wrong_at_end form known (fields_in last) })
fault_from form known line (first ∷ next ∷ lines) =
    first_fault line (wrong_in form known (fields_in first))
    (fault_from form (form.after known (fields_in first)) (line + 1) (next ∷ lines))

abbrev pub fault_of : {Known : Type 0} → Form Known → Known → List ℕ → Option Place
fault_of form known text = fault_from form known 1 (lines_of_text text)
