-- Picks from weighted choice trees.
use Rattle.std.specs.Option.{option_map_or}
use Rattle.std.specs.Prelude.{Bool, List, None, Option, Some, bytes_eq, drop, false, find, map, nat_lt, ℕ, ◌+◌, ◌-◌, ◌/◌, ◌%◌, ◌==◌, ◌&&◌, ◌||◌, ◌∷◌, [], if◌then◌else◌, position, slice_get}
use Rattle.rv_fields.specs.Name.{Name}
use Rattle.choice_tree.specs.Forest.{Forest, Tree, Nodes, no_nodes, leaf_of, node_of}

abbrev pub total : Nodes → ℕ
total no_nodes = 0
total (leaf_of label weight rest) = weight + total rest
total (node_of label weight kids rest) = weight + total rest

-- The leaf in whose interval a number lies; each is as long as its weight, in the nodes' order. Below a node the rest of the
-- word decides, unless the total there is 0.
abbrev pub leaf_at : Nodes → ℕ → ℕ → Option Name
leaf_at no_nodes number word = None
leaf_at (leaf_of label weight rest) number word = if nat_lt number weight then Some label else leaf_at rest (number - weight) word
leaf_at (node_of label weight kids rest) number word =
    if nat_lt number weight then (if total kids == 0 then None else leaf_at kids (word % total kids) (word / total kids))
    else leaf_at rest (number - weight) word

-- what a drawn word picks: none where a total on the way is 0
abbrev pub leaf_by : Nodes → ℕ → Option Name
leaf_by kids word = if total kids == 0 then None else leaf_at kids (word % total kids) (word / total kids)

-- a path's first label, where others follow it or not
abbrev pub leads_to : List Name → Name → Bool
leads_to [] label = false
leads_to (first ∷ path) label = bytes_eq first label

abbrev pub ends_at : List Name → Name → Bool
ends_at [] label = false
ends_at (first ∷ []) label = bytes_eq first label
ends_at (first ∷ next ∷ path) label = false

-- the nodes with another weight of the one at the path
abbrev pub reweighed : List Name → ℕ → Nodes → Nodes
reweighed path new no_nodes = no_nodes
reweighed path new (leaf_of label weight rest) = leaf_of label (if ends_at path label then new else weight) (reweighed path new rest)
reweighed path new (node_of label weight kids rest) =
    node_of label (if ends_at path label then new else weight)
    (if leads_to path label then reweighed (drop 1 path) new kids else kids) (reweighed path new rest)

-- a node stands at the path
abbrev pub has_path : List Name → Nodes → Bool
has_path path no_nodes = false
has_path path (leaf_of label weight rest) = ends_at path label || has_path path rest
has_path path (node_of label weight kids rest) =
    ends_at path label || (leads_to path label && has_path (drop 1 path) kids) || has_path path rest

abbrev pub kids_of : Forest → Name → Nodes
kids_of forest name = option_map_or (λ (t : Tree). t.kids) (find (λ t. bytes_eq t.name name) forest) no_nodes

abbrev pub with_weight : Forest → Name → List Name → ℕ → Forest
with_weight forest name path weight =
    map (λ (t : Tree). if bytes_eq t.name name then record t { kids = reweighed path weight t.kids } else t) forest

-- the kids of the tree at a place in the file
abbrev pub kids_at : Forest → ℕ → Nodes
kids_at forest number = option_map_or (λ (t : Tree). t.kids) (slice_get forest number) no_nodes

-- the place in the file of the tree of a name
abbrev pub tree_number : Forest → Name → Option ℕ
tree_number forest name = position (λ (t : Tree). bytes_eq t.name name) forest
