use Rattle.std.proofs.Common.{◌≡◌, ◌+◌, ◌*◌, ◌∷◌, drop, length, take}
use Rattle.choice_tree.specs.Seen.{all_ahead, nodes_seen}
use Rattle.choice_tree.specs.Trees.{reweighed}
use Rattle.choice_tree.proofs.kids.+weights.Given as goal

abbrev pub decreases-Kids::set_weight : goal.decreases-Kids::set_weight
decreases-Kids::set_weight l = 2 * length l.path.now

abbrev pub decreases-Node::set_weight : goal.decreases-Node::set_weight
decreases-Node::set_weight l = 2 * length l.rest.now + 1

-- the nodes so far have their new weights
abbrev pub invariant-Kids::set_weight-loop-i : goal.invariant-Kids::set_weight-loop-i
invariant-Kids::set_weight-loop-i l = record {
  weights : all_ahead (take l.i l.self-inside.nodes.items) (reweighed (l.first ∷ l.rest) l.weight (nodes_seen (drop l.i l.self-inside.nodes.items)))
      ≡ reweighed (l.first ∷ l.rest) l.weight (nodes_seen l.initial.self-inside.nodes.items);
  count : length l.self-inside.nodes.items ≡ length l.initial.self-inside.nodes.items;
}
