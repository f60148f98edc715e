-- The text of a trace, cut behind a line.
use Rattle.std.proofs.Common.{◌≡◌, ℕ, ◌+◌, ◌≤◌, List, [], ◌∷◌, ◌++◌, length, Bool, true, false, cond, refl, sym, ap, ◌∙◌, subst, arith, Some, None, Result, Ok, Err}
use Rattle.std.specs.Prelude.{MatchResult, ◌==◌, ◌&&◌, nat_lt}
use Rattle.std.specs.Option.{unwrap_or}
use Rattle.std.specs.List.{join_with_byte, onto_first}
use Rattle.std.proofs.lemmas.Bool.{ne_eqb}
use Rattle.std.proofs.lemmas.List.Splits.{join_with_byte-slice_split}
use Rattle.std.proofs.lemmas.Option.{none-some}
use Rattle.rv_fields.specs.Play.{most_harts}
use Rattle.trace_fields.specs.declared.fault.LineFault.{LineFault}
use Rattle.trace_fields.specs.declared.fault.LineFault.TheVariants.{At, Memory}
use Rattle.trace_text.specs.declared.line.Line as code
use Rattle.trace_fields.specs.Fields.{fields_in}
use Rattle.trace_text.specs.Forms.{lines_of_text, wrong_in}
use Rattle.trace_text.specs.Lines.{Line}
use Rattle.trace_fields.specs.Taking.{IsFault, IsWrongBy, whole_line}
use Rattle.trace_text.specs.Text.{line_fields, trace_text}
use Rattle.trace_text.specs.Traces.{IsLine, IsTrace, trace_form, trace_tests, trace_fault}
use Rattle.trace_text.specs.Views.{line_seen, lines_seen}
use Rattle.trace_text.proofs.Faults.{IsFaultAtEnd, at_end_in}
use Rattle.trace_text.proofs.LineTexts.{fields_right}
use Rattle.trace_text.proofs.Sound.{sound}
use Rattle.trace_text.proofs.Injective.{injective}

joined_more : (first : List ℕ) (test : Bool) (b : ℕ) (lines : List (List ℕ))
    → join_with_byte 0x0a (first ∷ cond test ([] ∷ lines) (onto_first b lines)) ≡ first ++ 0x0a ∷ join_with_byte 0x0a (cond test ([] ∷ lines) (onto_first b lines))
joined_more first true b lines = refl
joined_more first false b [] = refl
joined_more first false b (l ∷ lines) = refl

joined_lines : (first behind : List ℕ) → join_with_byte 0x0a (first ∷ lines_of_text behind) ≡ first ++ 0x0a ∷ join_with_byte 0x0a (lines_of_text behind)
joined_lines first [] = refl
joined_lines first (b ∷ behind) = joined_more first (b == 0x0a) b (lines_of_text behind)

-- a text that is cut behind its first line
pub cut_text : (rest first behind : List ℕ) → lines_of_text rest ≡ first ∷ lines_of_text behind → rest ≡ first ++ 0x0a ∷ behind
cut_text rest first behind cut =
    sym (join_with_byte-slice_split 0x0a rest) ∙ ap (join_with_byte 0x0a) cut ∙ joined_lines first behind
    ∙ ap (λ (l : List ℕ). first ++ 0x0a ∷ l) (join_with_byte-slice_split 0x0a behind)

-- a text whose fields are these
pub fields_text : (text : List ℕ) (fields : List (List ℕ)) → fields_in text ≡ fields → text ≡ join_with_byte 0x20 fields
fields_text text fields are = sym (join_with_byte-slice_split 0x20 text) ∙ ap (join_with_byte 0x20) are

-- a line that is read has no wrong field
pub right_line : (harts : ℕ) → harts ≤ most_harts → (l : Line) (fields : List (List ℕ)) → fields ≡ line_fields l → IsLine harts l
    → wrong_in trace_form (Some harts) fields ≡ None
right_line harts few l fields are is = ap (wrong_in trace_form (Some harts)) are ∙ fields_right harts few l is

-- The fault of a line that no newline ends.
pub open_line : (harts number : ℕ) (text : List ℕ) (read : Result code.Line LineFault) (fault : LineFault) → harts ≤ most_harts
    → MatchResult read (λ l. (fields_in text ≡ line_fields (line_seen l)) × IsLine harts (line_seen l))
    (λ f. IsWrongBy (trace_tests (Some harts) (fields_in text)) (whole_line number (fields_in text)) f)
    → MatchResult read (λ l. fault ≡ At number (length (line_fields (line_seen l)) + 1)) (λ f. fault ≡ f)
    → IsFaultAtEnd trace_form (Some harts) number text fault
open_line harts number text (Ok l) fault few reads is =
    let fields = fields_in text in
    let right = right_line harts few (line_seen l) fields reads.0 reads.1 in
    let field = ap (λ w. unwrap_or w (length fields + 1)) right ∙ ap (λ fs. length fs + 1) reads.0 in
    subst (IsFaultAtEnd trace_form (Some harts) number text) (sym is) (ap (λ k. Some (record { line = number; field = k })) field)
open_line harts number text (Err f) fault few reads is =
    subst (IsFaultAtEnd trace_form (Some harts) number text) (sym is) (at_end_in trace_form (Some harts) number text f reads)

-- What the reader answers with, where `items` shows the vector's elements.
pub again_is : {V : Type 0} (items : V → List code.Line) (text : List ℕ) (r : Result (ℕ × V) LineFault)
    → MatchResult r (λ read. IsTrace read.0 (lines_seen (items read.1)) × (text ≡ trace_text read.0 (lines_seen (items read.1)))) (λ fault. IsFault (trace_fault text) fault)
    → (harts : ℕ) (lines : List Line) → IsTrace harts lines → text ≡ trace_text harts lines
    → MatchResult r (λ read. (read.0 ≡ harts) × (lines_seen (items read.1) ≡ lines)) (λ fault. fault ≡ Memory)
again_is items text (Ok read) reads harts lines is same =
    injective read.0 harts (lines_seen (items read.1)) lines reads.0 is (sym reads.1 ∙ same)
again_is items text (Err Memory) reads harts lines is same = refl
again_is items text (Err (At l f)) reads harts lines is same =
    absurd (none-some (record { line = l; field = f }) (sym (sound harts lines is) ∙ ap trace_fault (sym same) ∙ reads))

-- what is left is no empty text
pub some_left : (rest : List ℕ) (line : ℕ) → 1 ≤ length rest → (length rest == 0 && nat_lt 1 line) ≡ false
some_left rest line some = ap (λ b. b && nat_lt 1 line) (ne_eqb (length rest) 0 (λ e. omega (arith, e)))
