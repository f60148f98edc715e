-- The leaf that is picked stands in the set, at its place.
use Rattle.std.proofs.Common.{◌≡◌, ◌∙◌, true, ap, sym, slice_get, true≢false}
use Rattle.std.specs.List.{list_any}
use Rattle.std.specs.Str.{bytes_eq}
use Rattle.choice_tree.specs.Forest.{leaves}
use Rattle.choice_tree.proofs.Keys.{any_by_bytes, name_eq}
use Rattle.choice_tree.proofs.Picks.{picked_among, position_leaf}
use Rattle.choice_tree.proofs.trees.Tree.pick.Goals as goal

pub unreachable-requires : goal.unreachable-requires
unreachable-requires c =
    let label = c.in_ok-label.label in
    let there : list_any (name_eq label) c.self.inside.positions.keys ≡ true =
    any_by_bytes label c.self.inside.positions.keys ∙ ap (list_any (bytes_eq label)) c.self.invariant.0
    ∙ picked_among c.self.inside.kids c.args.word label (sym c.leaf_by.ensures ∙ c.in_ok-label.was) in
    true≢false (sym there ∙ sym c.in-None.ensures.found)

pub returns-clause-position : goal.returns-clause-position
returns-clause-position c =
    ap (λ names. slice_get names c.in-Some.position) (sym (c.self.invariant.0 ∙ ap leaves c.self.view_is))
    ∙ position_leaf c.in_ok-label.label c.self.inside.positions.keys c.in-Some.position c.in-Some.ensures.index
