use Rattle.std.proofs.Common.{◌≡◌, ◌++◌, drop}
use Rattle.choice_tree.specs.Forest.{leaves}
use Rattle.choice_tree.specs.Seen.{nodes_seen}
use Rattle.choice_tree.proofs.kids.Kids.+add_leaves.Given as goal

abbrev pub decreases-add_leaves : goal.decreases-add_leaves
decreases-add_leaves l = goal.size-add_leaves l

-- the leaves so far, and those of the other nodes
abbrev pub invariant-loop-node : goal.invariant-loop-node
invariant-loop-node l = l.names.items ++ leaves (nodes_seen (drop l.node-index l.node-items)) ≡ l.initial.names.items ++ leaves (nodes_seen l.node-items)
