use Rattle.std.proofs.Common.{map, Bool, sym, ◌∙◌}
use Rattle.std.specs.List.{list_any}
use Rattle.std.specs.Str.{bytes_eq}
use Rattle.rv_fields.specs.Name.{are_different}
use Rattle.forge.proofs.Names.{first_differs, first_passes, first_fails}
use Rattle.forge.proofs.words.+are_different.Goals as goal

pub returns-then-not-is_among : goal.returns-then-not-is_among
returns-then-not-is_among t c =
    let among : Bool = list_any (λ other. bytes_eq c.in-Some.first.now.now other.now) c.in-Some.rest.now in
    first_passes among (are_different (map (λ word. word.now) c.in-Some.rest.now)) c.are_different.result
    (sym c.is_among.ensures ∙ c.if-not-is_among.true) c.are_different.ensures
    ∙ sym (first_differs c.args.words.now c.in-Some.first.now c.in-Some.rest.now c.in-Some.ensures.cases.0)

pub returns-else-not-is_among : goal.returns-else-not-is_among
returns-else-not-is_among t c =
    let among : Bool = list_any (λ other. bytes_eq c.in-Some.first.now.now other.now) c.in-Some.rest.now in
    first_fails among (are_different (map (λ word. word.now) c.in-Some.rest.now)) c.is_among.result
    c.is_among.ensures c.if-not-is_among.false
    ∙ sym (first_differs c.args.words.now c.in-Some.first.now c.in-Some.rest.now c.in-Some.ensures.cases.0)
