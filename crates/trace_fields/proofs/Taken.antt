-- The fault of a line, field by field.
use Rattle.std.proofs.Common.{◌≡◌, ℕ, ◌+◌, List, ◌∷◌, true, cond, refl, sym, ap, ◌∙◌, Option, None, Some, Result, Ok, Err, subst}
use Rattle.std.specs.Prelude.{MatchResult}
use Rattle.std.specs.Result.{IsErrAnd}
use Rattle.std.specs.Option.{is_some, ok_or, option_map}
use Rattle.trace_fields.specs.declared.fields.Fields.{Fields}
use Rattle.trace_fields.specs.declared.fault.LineFault.{LineFault}
use Rattle.trace_fields.specs.declared.fault.LineFault.TheVariants.{At}
use Rattle.trace_fields.specs.Fields.{Place, FieldTest, first_wrong, tells, is_word}
use Rattle.trace_fields.specs.Taking.{Left, left, wrong_by, IsFault, IsWrongBy, Took, Passed, Lacks, Takes}
use Rattle.std.proofs.lemmas.Slice.Eq.{bytes_eq-Decides}

-- the fault is in the next field
pub lacks_here : {test : FieldTest} {tests : List FieldTest} {old : Fields} {fault : LineFault} → Lacks test old fault → IsWrongBy (test ∷ tests) (left old) fault
lacks_here {test} {tests} {old} {fault} lacks = record { is = lacks.is tests }

-- what is wrong behind a field that passes
wrong_behind : (test : FieldTest) (tests : List FieldTest) (old new : Fields) (field : List ℕ) → Passed test old new field
    → wrong_by (test ∷ tests) (left old) ≡ wrong_by tests (left new)
wrong_behind test tests old new field passed =
    let place : ℕ → ℕ → Place = λ line f. record { line = line; field = f } in
    let number = (left old).number in
    let rest = (left new).fields in
    ap (λ fields. option_map (place (left old).line) (first_wrong number (test ∷ tests) fields)) passed.took.fields
    ∙ ap (λ b. option_map (place (left old).line) (cond b (first_wrong (number + 1) tests rest) (Some number))) passed.passes
    ∙ ap (λ n. option_map (place (left old).line) (first_wrong n tests rest)) (sym passed.took.number)
    ∙ ap (λ line. option_map (place line) (first_wrong (left new).number tests rest)) (sym passed.took.line)

-- or the fault is behind a field that passes
pub behind : {test : FieldTest} {tests : List FieldTest} {old new : Fields} {field : List ℕ} {fault : LineFault}
    → Passed test old new field → IsWrongBy tests (left new) fault → IsWrongBy (test ∷ tests) (left old) fault
behind {test} {tests} {old} {new} {field} {fault} passed wrong =
    record { is = subst (λ w. IsFault w fault) (sym (wrong_behind test tests old new field passed)) wrong.is }

-- the fault of a whole line is that of what is left at its start
pub from_start : {tests : List FieldTest} {start line : Left} {fault : LineFault} → start ≡ line → IsWrongBy tests start fault → IsWrongBy tests line fault
from_start {tests} {start} {line} {fault} is wrong = subst (λ l. IsWrongBy tests l fault) is wrong

-- what holds of the fault that an answer hands on
pub handed_on : {V : Type 0} (P : V → Type 0) (Q : LineFault → Type 0) (result : Result V LineFault) (fault : LineFault)
    → IsErrAnd result (λ f. f ≡ fault) → Q fault → MatchResult result P Q
handed_on P Q (Ok v) fault is holds = absurd is
handed_on P Q (Err f) fault is holds = subst Q (sym is) holds

-- What a reading makes of the field that was taken, where the text of what a field tells is that field.
module _ {A V : Type 0} (reading : List ℕ → Option A) (text : A → List ℕ) {Fits : A → Type 0} (seen : V → A)
    (back : (field : List ℕ) (a : A) → reading field ≡ Some a → Fits a × (text a ≡ field)) {old new : Fields} {field : List ℕ} (took : Took old new field) where
  takes_at : (o : Option V) → option_map seen o ≡ reading field → Takes reading text Fits seen old new (ok_or o (At old.line old.number))
  takes_at (Some v) told =
      let parts = back field (seen v) (sym told) in
      let taken : Took old new (text (seen v)) =
      record { fields = took.fields ∙ ap (λ f. f ∷ (left new).fields) (sym parts.1); line = took.line; number = took.number } in
      (record { took = taken; passes = ap is_some (ap reading parts.1 ∙ sym told) }, parts.0)
  takes_at None told =
      let place : ℕ → Place = λ f. record { line = old.line; field = f } in
      record {
        is = λ more. ap (λ fields. option_map place (first_wrong old.number (tells reading ∷ more) fields)) took.fields
            ∙ ap (λ p. option_map place (cond (is_some p) (first_wrong (old.number + 1) more (left new).fields) (Some old.number))) (sym told);
      }

  pub takes : (o : Option V) → option_map seen o ≡ reading field → (fault : LineFault) → fault ≡ At old.line old.number
      → (result : Result V LineFault) → result ≡ ok_or o fault → Takes reading text Fits seen old new result
  takes o told fault at result is = subst (Takes reading text Fits seen old new) (sym (is ∙ ap (ok_or o) at)) (takes_at o told)

-- what is shown as it is
pub as_is : {A : Type 0} (o : Option A) {p : Option A} → o ≡ p → option_map (λ a. a) o ≡ p
as_is None told = told
as_is (Some a) told = told

pub word_passes : (word : List ℕ) → is_word word word ≡ true
word_passes word = (bytes_eq-Decides word word).1 refl
