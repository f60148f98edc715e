-- Taking the fields of a line, one after another.
use Rattle.std.specs.Prelude.{◌≡◌, ℕ, ◌+◌, true, List, ◌∷◌, Option, Some, option_map, MatchResult, Result}
use Rattle.trace_fields.specs.declared.fields.Fields.{Fields}
use Rattle.trace_fields.specs.declared.fault.LineFault.{LineFault}
use Rattle.trace_fields.specs.declared.fault.LineFault.TheVariants.{At, Memory}
use Rattle.trace_fields.specs.Fields.{FieldTest, Place, first_wrong, tells}
use Rattle.trace_fields.specs.Parts.{parts_left}

-- What is left of a line: its number, the number of the next field, and the fields from this one on.
pub record Left : Type 0 where
  pub line : ℕ
  pub number : ℕ
  pub fields : List (List ℕ)

abbrev pub left : Fields → Left
left f = record { line = f.line; number = f.number; fields = parts_left f.parts }

-- the whole of the line of this number
abbrev pub whole_line : ℕ → List (List ℕ) → Left
whole_line line fields = record { line = line; number = 1; fields = fields }

-- the first field that is left and wrong, missing or too many by the tests
abbrev pub wrong_by : List FieldTest → Left → Option Place
wrong_by tests l = option_map (λ field. record { line = l.line; field = field }) (first_wrong l.number tests l.fields)

-- the fault is this one, or memory ran out
abbrev pub IsFault : Option Place → LineFault → Type 0
IsFault fault (At l f) = fault ≡ Some (record { line = l; field = f })
IsFault fault Memory = Unit {0}

-- the fault is that of what is left, by the tests; or memory ran out
pub record IsWrongBy (tests : List FieldTest) (l : Left) (fault : LineFault) : Type 0 where
  pub is : IsFault (wrong_by tests l) fault

-- this field was taken
pub record Took (old new : Fields) (field : List ℕ) : Type 0 where
  pub fields : (left old).fields ≡ field ∷ (left new).fields
  pub line : (left new).line ≡ (left old).line
  pub number : (left new).number ≡ (left old).number + 1

-- this field was taken, and passes the test
pub record Passed (test : FieldTest) (old new : Fields) (field : List ℕ) : Type 0 where
  pub took : Took old new field
  pub passes : test field ≡ true

-- the next field is missing, or fails the test; or memory ran out
pub record Lacks (test : FieldTest) (old : Fields) (fault : LineFault) : Type 0 where
  pub is : (more : List FieldTest) → IsFault (wrong_by (test ∷ more) (left old)) fault

-- A field was taken that tells something by the reading, which fits, and of which it is the text; else there is none.
abbrev pub Takes : {A V : Type 0} → (List ℕ → Option A) → (A → List ℕ) → (A → Type 0) → (V → A) → Fields → Fields → Result V LineFault → Type 0
Takes reading text Fits seen old new result =
    MatchResult result (λ v. Passed (tells reading) old new (text (seen v)) × Fits (seen v)) (λ fault. Lacks (tells reading) old fault)
