use Rattle.std.proofs.Common.{◌≡◌, ◌+◌, ◌*◌, ◌^◌, ◌≤◌, drop}
use Rattle.choice_tree.specs.Seen.{nodes_seen}
use Rattle.choice_tree.specs.Trees.{total}
use Rattle.choice_tree.proofs.kids.Kids.total.Given as goal

-- the weights so far, and those of the other nodes
abbrev pub invariant-loop-node : goal.invariant-loop-node
invariant-loop-node l = record {
  sum : l.total + total (nodes_seen (drop l.node-index l.node-items)) ≡ total (nodes_seen l.node-items);
  small : l.total ≤ l.node-index * 2 ^ 32;
}
