-- The text of a trace has no fault.
use Rattle.std.proofs.Common.{◌≡◌, ℕ, ◌+◌, ◌<◌, ◌≤◌, List, [], ◌∷◌, cond, ap, ◌∙◌, arith, Some, None, codes}
use Rattle.std.specs.List.{AllByRecursion, flat_map}
use Rattle.std.proofs.lemmas.Bool.{lt-ltb}
use Rattle.rv_fields.specs.Play.{most_harts}
use Rattle.trace_text.specs.Lines.{Line}
use Rattle.trace_text.specs.Text.{line_body, line_text, trace_text, header_body}
use Rattle.trace_text.specs.Forms.{lines_of_text, first_fault, fault_from, wrong_in, wrong_at_end}
use Rattle.trace_fields.specs.Fields.{fields_in}
use Rattle.trace_text.specs.Orders.{number_in}
use Rattle.trace_text.specs.Traces.{IsLine, IsTrace, trace_form, trace_fault}
use Rattle.trace_text.proofs.Faults.{step}
use Rattle.trace_fields.proofs.WordBytes.{IsVisible}
use Rattle.trace_text.proofs.VisibleLines.{cut_line, header_number, header_right, header_cut}
use Rattle.trace_text.proofs.LineTexts.{fields_again, body_lacks_newline, fields_right}

trace_visible : IsVisible (codes "trace")
trace_visible = omega arith

-- the first line without its newline
abbrev pub header_line : ℕ → List ℕ
header_line harts = header_body (codes "trace") harts

module _ (harts : ℕ) (most : harts ≤ most_harts) where
  pub harts_told : number_in (fields_in (header_line harts)) 2 ≡ harts
  harts_told = header_number (codes "trace") trace_visible harts most

  -- the lines of a trace's text
  pub trace_cut : (lines : List Line) → lines_of_text (trace_text harts lines) ≡ header_line harts ∷ lines_of_text (flat_map line_text lines)
  trace_cut lines = header_cut (codes "trace") trace_visible harts most (flat_map line_text lines)

  pub line_cut : (l : Line) (lines : List Line) → IsLine harts l
      → lines_of_text (flat_map line_text (l ∷ lines)) ≡ line_body l ∷ lines_of_text (flat_map line_text lines)
  line_cut l lines is = cut_line (line_body l) (flat_map line_text lines) (body_lacks_newline harts most l is)

  line_right : (l : Line) → IsLine harts l → wrong_in trace_form (Some harts) (fields_in (line_body l)) ≡ None
  line_right l is = ap (wrong_in trace_form (Some harts)) (fields_again harts most l is) ∙ fields_right harts most l is

  no_fault : (line : ℕ) (lines : List Line) → 1 < line → AllByRecursion (IsLine harts) lines
      → fault_from trace_form (Some harts) line (lines_of_text (flat_map line_text lines)) ≡ None
  no_fault line [] behind are =
      ap (λ b. cond b None (Some (record { line = line; field = wrong_at_end trace_form (Some harts) (fields_in []) }))) (lt-ltb 1 line behind)
  no_fault line (l ∷ lines) behind are =
      let rest = flat_map line_text lines in
      ap (fault_from trace_form (Some harts) line) (line_cut l lines are.0)
      ∙ step trace_form (Some harts) line (line_body l) rest
      ∙ ap (λ wrong. first_fault line wrong (fault_from trace_form (Some harts) (line + 1) (lines_of_text rest))) (line_right l are.0)
      ∙ no_fault (line + 1) lines (omega arith) are.1

pub sound : (harts : ℕ) (lines : List Line) → IsTrace harts lines → trace_fault (trace_text harts lines) ≡ None
sound harts lines is =
    let rest = flat_map line_text lines in
    let body = header_line harts in
    ap (fault_from trace_form None 1) (trace_cut harts is.most lines)
    ∙ step trace_form None 1 body rest
    ∙ ap (λ wrong. first_fault 1 wrong (fault_from trace_form (Some (number_in (fields_in body) 2)) 2 (lines_of_text rest))) (header_right (codes "trace") trace_visible harts is.most is.some)
    ∙ ap (λ n. fault_from trace_form (Some n) 2 (lines_of_text rest)) (harts_told harts is.most)
    ∙ no_fault harts is.most 2 lines (omega arith) is.are_lines
