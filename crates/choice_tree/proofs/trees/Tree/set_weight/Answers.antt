-- Other weights leave the leaves.
use Rattle.std.proofs.Common.{◌≡◌, ◌∙◌, ap, sym}
use Rattle.choice_tree.specs.Forest.{leaves}
use Rattle.choice_tree.proofs.Weights.{leaves_kept}
use Rattle.choice_tree.proofs.trees.Tree.set_weight.Goals as goal

pub invariant_of-self : goal.invariant_of-self
invariant_of-self c =
    let same : leaves c.set_weight.new.self ≡ leaves c.self.inside.kids = ap leaves c.set_weight.ensures ∙ leaves_kept c.args.path.now c.args.weight c.self.inside.kids in
    (c.self.invariant.0 ∙ sym same, rw same c.self.invariant.1)
