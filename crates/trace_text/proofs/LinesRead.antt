-- A line that is read behind its first field.
use Rattle.std.proofs.Common.{◌≡◌, ℕ, ◌<◌, ◌≤◌, arith, length, slice_index, List, [], ◌∷◌, sym, ap, ◌∙◌, Some, Result, Ok, Err, subst, get_or}
use Rattle.std.specs.Prelude.{MatchResult}
use Rattle.trace_fields.specs.declared.fields.Fields.{Fields}
use Rattle.trace_fields.specs.declared.fault.LineFault.{LineFault}
use Rattle.std.specs.Prelude.{◌==◌}
use Rattle.std.proofs.lemmas.List.Splits.{length-slice_split}
use Rattle.trace_fields.specs.Fields.{is_word, fields_in}
use Rattle.trace_fields.specs.Taking.{Left, left, whole_line, Took, IsWrongBy}
use Rattle.trace_fields.proofs.Taken.{behind, word_passes}
use Rattle.trace_text.specs.declared.line.Line as code
use Rattle.trace_text.specs.Text.{line_fields}
use Rattle.trace_text.specs.Traces.{LineForm, tests_behind, tests_for, trace_tests, line_forms, IsLine}
use Rattle.trace_text.specs.LineReading.{ReadsLine}
use Rattle.trace_text.specs.Views.{line_seen}

module _ (form : LineForm) (harts line : ℕ) (fields : List (List ℕ)) {start after : Fields} (starts : left start ≡ whole_line line fields)
    (took : Took start after form.key) (is : tests_for harts form.key line_forms ≡ is_word form.key ∷ tests_behind harts form.tests) where
  cut : fields ≡ form.key ∷ (left after).fields
  cut = sym (ap (λ (l : Left). l.fields) starts) ∙ took.fields

  -- the fault of a line of this form
  pub fault_behind : (fault : LineFault) → IsWrongBy (tests_behind harts form.tests) (left after) fault
      → IsWrongBy (trace_tests (Some harts) fields) (whole_line line fields) fault
  fault_behind fault wrong =
      let tests = is_word form.key ∷ tests_behind harts form.tests in
      let here : IsWrongBy tests (left start) fault = behind (record { took = took; passes = word_passes form.key }) wrong in
      let known : tests_for harts (get_or fields 0 []) line_forms ≡ tests =
      ap (λ (fs : List (List ℕ)). tests_for harts (get_or fs 0 []) line_forms) cut ∙ is in
      subst (λ ts. IsWrongBy ts (whole_line line fields) fault) (sym known) (subst (λ l. IsWrongBy tests l fault) starts here)

  -- what is answered of a line of this form
  pub read_behind : (result : Result code.Line LineFault) → ReadsLine form harts after result
      → MatchResult result (λ l. (fields ≡ line_fields (line_seen l)) × IsLine harts (line_seen l))
      (λ fault. IsWrongBy (trace_tests (Some harts) fields) (whole_line line fields) fault)
  read_behind (Ok l) reads = (cut ∙ reads.0, reads.1)
  read_behind (Err fault) reads = fault_behind fault reads

-- a key of one letter
one_letter : (field : List ℕ) (letter : ℕ) → 1 ≤ length field → length field < 2 → slice_index field 0 ≡ letter → field ≡ letter ∷ []
one_letter [] letter some few is = absurd (omega arith)
one_letter (l ∷ []) letter some few is = ap (λ k. k ∷ []) is
one_letter (l ∷ m ∷ ls) letter some few is = absurd (omega arith)

pub took_letter : {start after : Fields} {field : List ℕ} (letter : ℕ) → Took start after field → 1 ≤ length field → length field < 2
    → slice_index field 0 ≡ letter → Took start after (letter ∷ [])
took_letter {start} {after} {field} letter took some few is = subst (Took start after) (one_letter field letter some few is) took

-- a line has a field, if an empty one
pub some_field : {start : Left} {line : ℕ} {fields : List (List ℕ)} (text : List ℕ) → start ≡ whole_line line fields → fields ≡ fields_in text
    → start.fields ≡ [] → ⊥
some_field {start} {line} {fields} text starts are none =
    omega (arith, length-slice_split (λ b. b == 0x20) text, ap length (sym are ∙ sym (ap (λ (l : Left). l.fields) starts) ∙ none))
