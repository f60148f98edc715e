-- The order, line by line.
use Rattle.std.proofs.Common.{ℕ, ◌+◌, ◌<◌, ◌≡◌, List, ◌++◌, length, drop, get_or, Option, Some, None, refl, sym, ap, ◌∙◌, append_assoc}
use Rattle.std.proofs.lemmas.List.{at_drop_more}
use Rattle.std.specs.List.{cons_option}
use Rattle.std.specs.Option.{option_map, option_to_list}
use Rattle.rv_fields.specs.Effect.{Effect}
use Rattle.trace_text.specs.declared.line.Line as code
use Rattle.trace_text.specs.Lines.{effect_of, effects_of}
use Rattle.trace_text.specs.Views.{line_seen, lines_seen}
use Rattle.run_merge.specs.Justified.{order_of}

-- the harts of the steps of some lines
abbrev pub harts_of : List code.Line → List ℕ
harts_of lines = order_of (effects_of (lines_seen lines))

order_of-cons : (m : Option Effect) (es : List Effect) → order_of (cons_option m es) ≡ option_to_list (option_map (λ (e : Effect). e.hart) m) ++ order_of es
order_of-cons None es = refl
order_of-cons (Some e) es = refl

-- the hart of a line, where it is a step's
abbrev stepping : code.Line → Option ℕ
stepping line = option_map (λ (e : Effect). e.hart) (effect_of (line_seen line))

pub order_more : (out whole : List ℕ) (lines : List code.Line) (i : ℕ) (line : code.Line) (hart : Option ℕ) → i < length lines
    → line ≡ get_or lines i line → hart ≡ stepping line
    → out ++ harts_of (drop i lines) ≡ whole → (out ++ option_to_list hart) ++ harts_of (drop (i + 1) lines) ≡ whole
order_more out whole lines i line hart h at is e =
    let rest : List ℕ = harts_of (drop (i + 1) lines) in
    append_assoc out (option_to_list hart) rest
    ∙ ap (λ m. out ++ (option_to_list m ++ rest)) (is ∙ ap stepping at)
    ∙ sym (ap (λ bs. out ++ bs) (at_drop_more harts_of lines i line h ∙ order_of-cons (effect_of (line_seen (get_or lines i line))) (effects_of (lines_seen (drop (i + 1) lines)))))
    ∙ e
