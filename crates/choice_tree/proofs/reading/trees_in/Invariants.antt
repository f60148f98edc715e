use Rattle.std.proofs.Common.{◌≡◌, ◌++◌, drop, length, map, Some, true}
use Rattle.serde_json.specs.View.{items_view}
use Rattle.rv_fields.specs.Attempt.{◌>>=◌}
use Rattle.choice_tree.specs.Forest.{Tree, trees_by}
use Rattle.rv_fields.specs.Name.{are_different}
use Rattle.choice_tree.specs.Seen.{forest_seen}
use Rattle.choice_tree.proofs.reading.trees_in.Given as goal

-- the trees so far, which have different names, ahead of those of the other values
abbrev pub invariant-loop-value : goal.invariant-loop-value
invariant-loop-value l = record {
  read : (trees_by (items_view (drop l.value-index l.values)) >>= λ others. Some (forest_seen l.trees.entries ++ others)) ≡ trees_by (items_view l.values);
  different : are_different (map (λ (t : Tree). t.name) (forest_seen l.trees.entries)) ≡ true;
  count : length l.trees.entries ≡ l.value-index;
}
