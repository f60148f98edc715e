-- The fields of a line, which single spaces part, and the tests that they pass.
use Rattle.std.specs.Prelude.{ℕ, ◌+◌, Bool, true, false, not, ◌==◌, nat_lt, List, [], ◌∷◌, Option, Some, None, if◌then◌else◌}
use Rattle.std.specs.Option.{is_some, option_map_or}
use Rattle.std.specs.List.{slice_split}
use Rattle.std.specs.Str.{bytes_eq}
use Rattle.trace_fields.specs.Numbers.{decimal_below}

-- a field of a line, both counted from 1
pub record Place : Type 0 where
  pub line : ℕ
  pub field : ℕ

abbrev pub fields_in : List ℕ → List (List ℕ)
fields_in line = slice_split (λ b. b == 0x20) line

-- whether a field is as it must be
abbrev pub FieldTest : Type 0
FieldTest = List ℕ → Bool

-- The first field that is wrong, missing or too many, where the fields are counted from this number on.
abbrev pub first_wrong : ℕ → List FieldTest → List (List ℕ) → Option ℕ
first_wrong number [] [] = None
first_wrong number [] (field ∷ fields) = Some number
first_wrong number (test ∷ tests) [] = Some number
first_wrong number (test ∷ tests) (field ∷ fields) = if test field then first_wrong (number + 1) tests fields else Some number

-- the field tells something by this reading
abbrev pub tells : {A : Type 0} → (List ℕ → Option A) → FieldTest
tells reading field = is_some (reading field)

-- the field is this word
abbrev pub is_word : List ℕ → FieldTest
is_word word field = bytes_eq field word

-- the field is a decimal from low on and below the bound
abbrev pub is_decimal : ℕ → ℕ → FieldTest
is_decimal low bound field = option_map_or (λ n. not (nat_lt n low)) (decimal_below bound field) false

-- a hart below this number, and not the one of the line before
abbrev pub is_another_hart : ℕ → Option ℕ → FieldTest
is_another_hart harts last field =
    option_map_or (λ hart. option_map_or (λ before. not (before == hart)) last true) (decimal_below harts field) false
