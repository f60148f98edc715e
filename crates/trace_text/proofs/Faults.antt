-- The fault of a text, line by line.
use Rattle.std.proofs.Common.{◌≡◌, ℕ, ◌+◌, List, [], ◌∷◌, length, Bool, true, false, cond, refl, sym, ap, ◌∙◌, Option, Some, None, option_map, subst}
use Rattle.std.specs.Prelude.{◌==◌, ◌&&◌, nat_lt}
use Rattle.std.specs.Option.{unwrap_or}
use Rattle.std.specs.List.{onto_first}
use Rattle.std.proofs.lemmas.Bool.{cond-false}
use Rattle.std.proofs.lemmas.Option.{none-some}
use Rattle.trace_fields.specs.declared.fault.LineFault.{LineFault}
use Rattle.trace_fields.specs.declared.fault.LineFault.TheVariants.{At, Memory}
use Rattle.trace_fields.specs.Taking.{IsFault, IsWrongBy, whole_line}
use Rattle.trace_text.specs.Forms.{Form, lines_of_text, first_fault, fault_from, wrong_in, wrong_at_end}
use Rattle.trace_fields.specs.Fields.{Place, fields_in}

some_line : {Known : Type 0} (form : Form Known) (known : Known) (line : ℕ) (first : List ℕ) (test : Bool) (b : ℕ) (lines : List (List ℕ))
    → fault_from form known line (first ∷ cond test ([] ∷ lines) (onto_first b lines))
    ≡ first_fault line (wrong_in form known (fields_in first))
    (fault_from form (form.after known (fields_in first)) (line + 1) (cond test ([] ∷ lines) (onto_first b lines)))
some_line form known line first true b lines = refl
some_line form known line first false b [] = refl
some_line form known line first false b (l ∷ lines) = refl

-- the fault from a line on that a newline ends
pub step : {Known : Type 0} (form : Form Known) (known : Known) (line : ℕ) (first behind : List ℕ)
    → fault_from form known line (first ∷ lines_of_text behind)
    ≡ first_fault line (wrong_in form known (fields_in first)) (fault_from form (form.after known (fields_in first)) (line + 1) (lines_of_text behind))
step form known line first [] = refl
step form known line first (b ∷ behind) = some_line form known line first (b == 0x0a) b (lines_of_text behind)

-- the fault of a line of this number in which this field is wrong
abbrev wrong_at : ℕ → Option ℕ → Option Place
wrong_at line wrong = option_map (λ field. record { line = line; field = field }) wrong

first_is : (line : ℕ) (wrong : Option ℕ) (behind : Option Place) (place : Place) → wrong_at line wrong ≡ Some place → first_fault line wrong behind ≡ Some place
first_is line None behind place is = absurd (none-some place is)
first_is line (Some field) behind place is = is

last_is : (line end : ℕ) (wrong : Option ℕ) (place : Place) → wrong_at line wrong ≡ Some place → Some (record { line = line; field = unwrap_or wrong end }) ≡ Some place
last_is line end None place is = absurd (none-some place is)
last_is line end (Some field) place is = is

-- the fault of what is left is behind its first line
pub goes_on : {Known : Type 0} (form : Form Known) (known : Known) (line : ℕ) (rest first behind : List ℕ) (whole : Option Place)
    → fault_from form known line (lines_of_text rest) ≡ whole → lines_of_text rest ≡ first ∷ lines_of_text behind
    → wrong_in form known (fields_in first) ≡ None
    → fault_from form (form.after known (fields_in first)) (line + 1) (lines_of_text behind) ≡ whole
goes_on form known line rest first behind whole left cut right =
    sym (ap (fault_from form known line) cut ∙ step form known line first behind
    ∙ ap (λ w. first_fault line w (fault_from form (form.after known (fields_in first)) (line + 1) (lines_of_text behind))) right)
    ∙ left

-- the fault is that of a line of this number which no newline ends; or memory ran out
abbrev pub IsFaultAtEnd : {Known : Type 0} → Form Known → Known → ℕ → List ℕ → LineFault → Type 0
IsFaultAtEnd form known line text fault = IsFault (Some (record { line = line; field = wrong_at_end form known (fields_in text) })) fault

-- The fault that a reader answers with, of what is left.
module _ {Known : Type 0} (form : Form Known) (known : Known) (line : ℕ) (rest : List ℕ) (whole : Option Place)
    (left : fault_from form known line (lines_of_text rest) ≡ whole) where
  pub stops_here : (first behind : List ℕ) (fault : LineFault) → lines_of_text rest ≡ first ∷ lines_of_text behind
      → IsWrongBy (form.tests known (fields_in first)) (whole_line line (fields_in first)) fault → IsFault whole fault
  stops_here first behind (At l f) cut wrong =
      sym left ∙ ap (fault_from form known line) cut ∙ step form known line first behind
      ∙ first_is line (wrong_in form known (fields_in first)) _ (record { line = l; field = f }) wrong.is
  stops_here first behind Memory cut wrong = tt

  -- where no newline ends it, and it is no empty text behind other lines
  pub stops_at_end : (fault : LineFault) → lines_of_text rest ≡ rest ∷ [] → (length rest == 0 && nat_lt 1 line) ≡ false
      → IsFaultAtEnd form known line rest fault → IsFault whole fault
  stops_at_end fault cut some wrong =
      let last = Some (record { line = line; field = wrong_at_end form known (fields_in rest) }) in
      let is : whole ≡ last = sym left ∙ ap (fault_from form known line) cut ∙ cond-false (length rest == 0 && nat_lt 1 line) None last some in
      subst (λ w. IsFault w fault) (sym is) wrong

-- the fault of a line that no newline ends
pub at_end_in : {Known : Type 0} (form : Form Known) (known : Known) (line : ℕ) (text : List ℕ) (fault : LineFault)
    → IsWrongBy (form.tests known (fields_in text)) (whole_line line (fields_in text)) fault → IsFaultAtEnd form known line text fault
at_end_in form known line text (At l f) wrong =
    last_is line (length (fields_in text) + 1) (wrong_in form known (fields_in text)) (record { line = l; field = f }) wrong.is
at_end_in form known line text Memory wrong = tt
