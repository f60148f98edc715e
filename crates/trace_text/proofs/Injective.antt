-- A trace's text tells the trace: no other has it.
use Rattle.std.proofs.Common.{◌≡◌, ℕ, ◌≤◌, List, [], ◌∷◌, ◌++◌, map, refl, sym, ap, ◌∙◌, subst, arith, Some}
use Rattle.std.specs.List.{AllByRecursion, flat_map}
use Rattle.std.proofs.lemmas.List.{append_cancel_right}
use Rattle.std.proofs.lemmas.Option.{same_Some}
use Rattle.rv_fields.specs.Play.{most_harts}
use Rattle.trace_text.specs.Lines.{Line}
use Rattle.trace_text.specs.Text.{line_body, line_text, trace_text}
use Rattle.trace_text.specs.Forms.{lines_of_text}
use Rattle.trace_fields.specs.Fields.{fields_in}
use Rattle.trace_text.specs.Orders.{number_in}
use Rattle.trace_fields.specs.Readings.{all_of}
use Rattle.trace_text.specs.Traces.{IsLine, IsTrace}
use Rattle.trace_fields.proofs.Agains.{all_again}
use Rattle.trace_text.proofs.LineTexts.{fields_again}
use Rattle.trace_text.proofs.LinesTold.{line_told, told_again}
use Rattle.trace_text.proofs.Sound.{header_line, harts_told, trace_cut, line_cut}

-- the lines that a trace's text has behind its first
abbrev bodies : List Line → List (List ℕ)
bodies lines = map line_body lines ++ [] ∷ []

bodies_cut : (harts : ℕ) → harts ≤ most_harts → (lines : List Line) → AllByRecursion (IsLine harts) lines
    → lines_of_text (flat_map line_text lines) ≡ bodies lines
bodies_cut harts most [] are = refl
bodies_cut harts most (l ∷ lines) are =
    line_cut harts most l lines are.0 ∙ ap (λ (ls : List (List ℕ)). line_body l ∷ ls) (bodies_cut harts most lines are.1)

whole_cut : (harts : ℕ) (lines : List Line) → IsTrace harts lines → lines_of_text (trace_text harts lines) ≡ header_line harts ∷ bodies lines
whole_cut harts lines is =
    trace_cut harts is.most lines ∙ ap (λ (ls : List (List ℕ)). header_line harts ∷ ls) (bodies_cut harts is.most lines is.are_lines)

lines_again : (harts : ℕ) (lines : List Line) → IsTrace harts lines
    → all_of (λ body. line_told harts (fields_in body)) (map line_body lines) ≡ Some lines
lines_again harts lines is =
    let most : harts ≤ most_harts = is.most in
    all_again line_body (λ body. line_told harts (fields_in body)) (IsLine harts)
    (λ l line. ap (line_told harts) (fields_again harts most l line) ∙ told_again harts (omega arith) l line)
    lines is.are_lines

cons_same : {A : Type 0} (x y : A) (xs ys : List A) → x ∷ xs ≡ y ∷ ys → (x ≡ y) × (xs ≡ ys)
cons_same x y xs ys e = (cc, cc)

pub injective : (h g : ℕ) (ls ms : List Line) → IsTrace h ls → IsTrace g ms → trace_text h ls ≡ trace_text g ms → (h ≡ g) × (ls ≡ ms)
injective h g ls ms is are same =
    let cut : header_line h ∷ bodies ls ≡ header_line g ∷ bodies ms = sym (whole_cut h ls is) ∙ ap lines_of_text same ∙ whole_cut g ms are in
    let parts = cons_same (header_line h) (header_line g) (bodies ls) (bodies ms) cut in
    let harts : h ≡ g =
    sym (harts_told h is.most) ∙ ap (λ body. number_in (fields_in body) 2) parts.0 ∙ harts_told g are.most in
    let lines : map line_body ls ≡ map line_body ms = append_cancel_right (map line_body ls) (map line_body ms) ([] ∷ []) parts.1 in
    let others : IsTrace h ms = subst (λ n. IsTrace n ms) (sym harts) are in (
      harts,
      same_Some ls ms (sym (lines_again h ls is) ∙ ap (all_of (λ body. line_told h (fields_in body))) lines ∙ lines_again h ms others),
    )
