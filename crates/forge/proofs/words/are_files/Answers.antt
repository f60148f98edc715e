use Rattle.std.proofs.Common.{List, ℕ, map, sym, ◌∙◌}
use Rattle.std.specs.List.{list_any}
use Rattle.forge.specs.Words.{is_option}
use Rattle.rv_fields.specs.Name.{are_different}
use Rattle.forge.proofs.Names.{any_seen, first_passes, first_fails}
use Rattle.forge.proofs.words.are_files.Goals as goal

pub returns-then-not-has_option : goal.returns-then-not-has_option
returns-then-not-has_option c =
    let files : List (List ℕ) = map (λ word. word.now) c.args.words.now in
    first_passes (list_any is_option files) (are_different files) c.are_different.result
    (any_seen is_option c.args.words.now ∙ (sym c.has_option.ensures ∙ c.if-not-has_option.true)) c.are_different.ensures

pub returns-else-not-has_option : goal.returns-else-not-has_option
returns-else-not-has_option c =
    let files : List (List ℕ) = map (λ word. word.now) c.args.words.now in
    first_fails (list_any is_option files) (are_different files) c.has_option.result
    (c.has_option.ensures ∙ sym (any_seen is_option c.args.words.now)) c.if-not-has_option.false
