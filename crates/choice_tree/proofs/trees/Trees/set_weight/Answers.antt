-- The tree at the place has its new weight, and the others stay.
use Rattle.std.proofs.Common.{◌≤◌, ◌∙◌, ap, sym, subst}
use Rattle.indexmap.proofs.CallerLemmas.{index_map_len-with_value_at}
use Rattle.choice_tree.specs.Forest.{most_trees}
use Rattle.rv_fields.specs.Name.{are_different}
use Rattle.choice_tree.specs.Trees.{tree_number, with_weight}
use Rattle.choice_tree.proofs.Settings.{names_set, weight_set}
use Rattle.choice_tree.proofs.trees.Trees.set_weight.Goals as goal

pub invariant_of-self : goal.invariant_of-self
invariant_of-self c = (
  subst (λ n. n ≤ most_trees) (sym (index_map_len-with_value_at c.self.inside.trees c.args.tree c.set_weight.new.self)) c.self.invariant.0,
  ap are_different (names_set c.self.inside.trees.entries c.args.tree c.set_weight.new.self) ∙ c.self.invariant.1,
)

pub returns : goal.returns
returns c = λ name numbered.
    weight_set c.self.inside.trees.entries c.args.tree c.index_mut.result.now c.set_weight.new.self name c.args.path.now c.args.weight c.self.invariant.1
    (ap (λ f. tree_number f name) c.self.view_is ∙ numbered) c.index_mut.ensures.value c.set_weight.ensures
    ∙ ap (λ f. with_weight f name c.args.path.now c.args.weight) c.self.view_is
