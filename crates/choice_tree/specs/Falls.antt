-- Kids have fewer nodes with kids than the list that their node stands in.
use Rattle.std.specs.Prelude.{◌≤◌, max, List, [], ◌∷◌}
use Rattle.std.proofs.Common.{arith}
use Rattle.choice_tree.specs.declared.kids.Node.{Node}
use Rattle.choice_tree.specs.declared.kids.Node.TheVariants.{Leaf, Inner}
use Rattle.choice_tree.specs.declared.kids.Kids.TheDeep.{deep-Node}
use Rattle.choice_tree.specs.Seen.{inner_count, nodes_seen}
use denote.Param.Weighed.{most}

pub falls : (nodes : List Node) → max (most deep-Node nodes) 0 ≤ inner_count (nodes_seen nodes)
falls [] = omega arith
falls (Leaf label weight ∷ nodes) = omega (arith, falls nodes)
falls (Inner label weight kids ∷ nodes) = omega (arith, falls nodes)
