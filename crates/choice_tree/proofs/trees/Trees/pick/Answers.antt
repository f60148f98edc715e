-- The kids at the tree's place are those of the tree that is picked from.
use Rattle.std.proofs.Common.{◌≡◌, ◌∙◌, ap, sym, subst, slice_get, Some, IfSome}
use Rattle.choice_tree.specs.Forest.{Nodes, leaves}
use Rattle.choice_tree.specs.Trees.{kids_at, leaf_by}
use Rattle.choice_tree.proofs.Picks.{kids_seen}
use Rattle.choice_tree.proofs.trees.Trees.pick.Goals as goal

pub returns-clause-label : goal.returns-clause-label
returns-clause-label c =
    let kids : kids_at c.args.self.now c.args.tree ≡ c.index.result.now =
    ap (λ f. kids_at f c.args.tree) (sym c.self.view_is) ∙ kids_seen c.self.inside.trees.entries c.args.tree c.index.result.now c.index.ensures in
    c.pick.ensures.label ∙ ap (λ k. leaf_by k c.args.word) (sym kids)

pub returns-clause-position : goal.returns-clause-position
returns-clause-position c =
    let kids : kids_at c.args.self.now c.args.tree ≡ c.index.result.now =
    ap (λ f. kids_at f c.args.tree) (sym c.self.view_is) ∙ kids_seen c.self.inside.trees.entries c.args.tree c.index.result.now c.index.ensures in
    let P : Nodes → Type 0 = λ k. IfSome c.pick.result (λ leaf. slice_get (leaves k) leaf.position ≡ Some leaf.label) in
    subst P (sym kids) c.pick.ensures.position
