-- What the nodes that the code holds stand for.
use Rattle.std.specs.Prelude.{ℕ, ◌+◌, List, [], ◌∷◌, map}
use Rattle.rv_fields.specs.Name.{Name}
use Rattle.choice_tree.specs.declared.kids.Node.{Node}
use Rattle.choice_tree.specs.declared.kids.Node.TheVariants.{Leaf, Inner}
use Rattle.choice_tree.specs.Forest.{Forest, Nodes, Tree, ahead, no_nodes, leaf_of, node_of}

abbrev pub nodes_seen : List Node → Nodes
nodes_seen [] = no_nodes
nodes_seen (node ∷ nodes) = ahead node (nodes_seen nodes)

abbrev pub label_of : Node → Name
label_of (Leaf label weight) = label
label_of (Inner label weight kids) = label

abbrev pub weight_of : Node → ℕ
weight_of (Leaf label weight) = weight
weight_of (Inner label weight kids) = weight

-- how many nodes have kids
abbrev pub inner_count : Nodes → ℕ
inner_count no_nodes = 0
inner_count (leaf_of label weight rest) = inner_count rest
inner_count (node_of label weight kids rest) = 1 + inner_count kids + inner_count rest

-- a tree under its name
abbrev pub tree_seen : Name × Nodes → Tree
tree_seen entry = record { name = entry.0; kids = entry.1 }

abbrev pub forest_seen : List (Name × Nodes) → Forest
forest_seen entries = map tree_seen entries

-- nodes ahead of others
abbrev pub all_ahead : List Node → Nodes → Nodes
all_ahead [] rest = rest
all_ahead (node ∷ nodes) rest = ahead node (all_ahead nodes rest)
