-- The lines of a trace, read one after another.
use Rattle.std.proofs.Common.{◌≡◌, ℕ, ◌+◌, ◌<◌, ◌≤◌, List, [], ◌∷◌, ◌++◌, length, refl, sym, ap, ◌∙◌, subst, append_assoc, append-nil, length-append, arith, Some, None}
use Rattle.std.specs.Prelude.{codes}
use Rattle.std.specs.List.{flat_map, AllByRecursion}
use Rattle.std.proofs.lemmas.Grind.{flat_map-append}
use Rattle.rv_fields.specs.Play.{most_harts}
use Rattle.trace_fields.specs.Fields.{fields_in}
use Rattle.trace_text.specs.Forms.{lines_of_text, fault_from, wrong_in}
use Rattle.trace_text.specs.Lines.{Line}
use Rattle.trace_text.specs.Orders.{number_in}
use Rattle.trace_text.specs.Reading.{Unread, Begins, HasRead}
use Rattle.trace_text.specs.Text.{header_fields, header_text, line_body, line_fields, line_text, newline, trace_text}
use Rattle.trace_fields.specs.Text.{joined_by, space_byte}
use Rattle.trace_text.specs.Traces.{IsLine, IsTrace, trace_fault, trace_form}
use Rattle.trace_text.proofs.Faults.{goes_on}
use Rattle.trace_fields.proofs.Joins.{all_append}
use Rattle.trace_text.proofs.TraceTexts.{cut_text, fields_text, right_line}

-- nothing is read
pub reads_none : (u : Unread) → HasRead [] u u
reads_none u = record { harts = refl; are = tt; number = omega arith; text_is = refl; fault = refl }

-- the text of fields that a newline ends, and what is behind
pub ended_text : (fields : List (List ℕ)) (rest first behind : List ℕ) → lines_of_text rest ≡ first ∷ lines_of_text behind → fields_in first ≡ fields
    → rest ≡ (joined_by space_byte fields ++ newline) ++ behind
ended_text fields rest first behind cut are =
    cut_text rest first behind cut ∙ ap (λ (f : List ℕ). f ++ 0x0a ∷ behind) (fields_text first fields are) ∙ sym (append_assoc (joined_by space_byte fields) newline behind)

-- a line is read
pub reads_one : (harts number : ℕ) (l : Line) (rest first behind : List ℕ) → harts ≤ most_harts
    → lines_of_text rest ≡ first ∷ lines_of_text behind → fields_in first ≡ line_fields l → IsLine harts l
    → HasRead (l ∷ []) (record { harts = harts; number = number; text = rest }) (record { harts = harts; number = number + 1; text = behind })
reads_one harts number l rest first behind few cut fields is = record {
  harts = refl;
  are = (is, tt);
  number = refl;
  text_is = ended_text (line_fields l) rest first behind cut fields ∙ ap (λ (t : List ℕ). t ++ behind) (sym (append-nil (line_text l)));
  fault = goes_on trace_form (Some harts) number rest first behind _ refl cut (right_line harts few l (fields_in first) fields is);
}

module _ {xs ys : List Line} {a b c : Unread} where
  -- lines are read, and others behind them
  pub reads_on : HasRead xs a b → HasRead ys b c → HasRead (xs ++ ys) a c
  reads_on front behind = record {
    harts = behind.harts ∙ front.harts;
    are = all_append (IsLine a.harts) xs ys front.are (subst (λ n. AllByRecursion (IsLine n) ys) front.harts behind.are);
    number = omega (arith, length-append xs ys, front.number, behind.number);
    text_is = front.text_is ∙ ap (λ (t : List ℕ). flat_map line_text xs ++ t) behind.text_is
        ∙ sym (append_assoc (flat_map line_text xs) (flat_map line_text ys) c.text)
        ∙ ap (λ (t : List ℕ). t ++ c.text) (sym (flat_map-append line_text xs ys));
    fault = behind.fault ∙ front.fault;
  }

-- where a line is read, less is left
pub less_left : {l : Line} {a b : Unread} → HasRead (l ∷ []) a b → length b.text < length a.text
less_left {l} {a} {b} read =
    omega (arith, ap length read.text_is, length-append (flat_map line_text (l ∷ [])) b.text, length-append (line_text l) [], length-append (line_body l) newline)

-- the first line is read
pub begins : (harts : ℕ) (bytes first behind : List ℕ) → lines_of_text bytes ≡ first ∷ lines_of_text behind
    → wrong_in trace_form None (fields_in first) ≡ None → harts ≡ number_in (fields_in first) 2
    → fields_in first ≡ header_fields (codes "trace") harts → 1 ≤ harts → harts ≤ most_harts
    → Begins bytes (record { harts = harts; number = 2; text = behind })
begins harts bytes first behind cut right told fields some most = record {
  some = some;
  most = most;
  number = refl;
  text_is = ended_text (header_fields (codes "trace") harts) bytes first behind cut fields;
  fault = ap (λ n. fault_from trace_form (Some n) 2 (lines_of_text behind)) told ∙ goes_on trace_form None 1 bytes first behind (trace_fault bytes) refl cut right;
}

-- A trace all of whose lines are read, behind which nothing is left.
pub reads_all : {lines : List Line} {text : List ℕ} {a b : Unread} → Begins text a → HasRead lines a b → b.text ≡ []
    → IsTrace b.harts lines × (text ≡ trace_text b.harts lines)
reads_all {lines} {text} {a} {b} start read ends =
    let all : text ≡ trace_text a.harts lines =
    start.text_is ∙ ap (λ (t : List ℕ). header_text (codes "trace") a.harts ++ t)
    (read.text_is ∙ ap (λ (t : List ℕ). flat_map line_text lines ++ t) ends ∙ append-nil (flat_map line_text lines)) in
    subst (λ n. IsTrace n lines × (text ≡ trace_text n lines)) (sym read.harts) (record { some = start.some; most = start.most; are_lines = read.are }, all)
