use Rattle.std.proofs.Common.{◌≡◌, ◌%◌, ◌/◌, drop}
use Rattle.choice_tree.specs.Seen.{nodes_seen}
use Rattle.choice_tree.specs.Trees.{leaf_at}
use Rattle.choice_tree.proofs.kids.Kids.+leaf_by.Given as goal

abbrev pub decreases-leaf_by : goal.decreases-leaf_by
decreases-leaf_by l = goal.size-leaf_by l

-- what is left of the number finds the same leaf in the other nodes
abbrev pub invariant-loop-node : goal.invariant-loop-node
invariant-loop-node l = leaf_at (nodes_seen (drop l.node-index l.node-items)) l.number (l.word / l.total) ≡ leaf_at (nodes_seen l.node-items) (l.word % l.total) (l.word / l.total)
