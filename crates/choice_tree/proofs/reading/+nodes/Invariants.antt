use Rattle.std.proofs.Common.{◌≡◌, ◌+◌, ◌*◌, drop, length, Some}
use Rattle.serde_json.specs.View.{items_view}
use Rattle.rv_fields.specs.Attempt.{◌>>=◌}
use Rattle.choice_tree.specs.Forest.{kids_in, nodes_by}
use Rattle.choice_tree.specs.Seen.{all_ahead}
use Rattle.choice_tree.proofs.reading.+nodes.Given as goal

abbrev pub decreases-kids_in : goal.decreases-kids_in
decreases-kids_in l = 4 * l.levels

abbrev pub decreases-nodes_in : goal.decreases-nodes_in
decreases-nodes_in l = 4 * l.levels + 3

abbrev pub decreases-node_in : goal.decreases-node_in
decreases-node_in l = 4 * l.levels + 2

abbrev pub decreases-inner_in : goal.decreases-inner_in
decreases-inner_in l = 4 * l.levels + 1

-- the nodes so far, ahead of those of the other values
abbrev pub invariant-nodes_in-loop-value : goal.invariant-nodes_in-loop-value
invariant-nodes_in-loop-value l = record {
  read : (nodes_by (kids_in l.levels) (items_view (drop l.value-index l.values)) >>= λ others. Some (all_ahead l.nodes.items others)) ≡ nodes_by (kids_in l.levels) (items_view l.values);
  count : length l.nodes.items ≡ l.value-index;
}
