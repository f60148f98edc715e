-- The choice trees that a file holds.
pub use Rattle.choice_tree.specs.Nodes.{Nodes, Tree, no_nodes, leaf_of, node_of}
use Rattle.std.specs.Prelude.{ℕ, zero, suc, ◌^◌, List, [], ◌∷◌, ◌++◌, map, codes, nat_lt, nat_le, ◌==◌, ◌&&◌, Option, Some, None, if◌then◌else◌}
use Rattle.std.specs.Option.{option_or}
use Rattle.std.specs.Str.{bytes_eq}
use Rattle.serde_json.specs.Data.{Data, Members, Items, no_items, item}
use Rattle.serde_json.specs.Events.{items_len}
use Rattle.serde_json.specs.Find.{as_array, get_member}
use Rattle.rv_fields.specs.Name.{Name, are_different, is_name}
use Rattle.rv_fields.specs.Attempt.{◌>>=◌}
use Rattle.json_keys.specs.Json.{document, object_of, natural_at, text_at}
use Rattle.choice_tree.specs.declared.kids.Node.{Node}
use Rattle.choice_tree.specs.declared.kids.Node.TheVariants.{Leaf, Inner}

abbrev pub Forest : Type 0
Forest = List Tree

-- the most nodes in one list of kids, the most levels of kids in a tree, and the most trees in a file
abbrev pub most_kids : ℕ
most_kids = 256

abbrev pub most_levels : ℕ
most_levels = 8

abbrev pub most_trees : ℕ
most_trees = 256

-- ---- names in nodes

-- a node ahead of others
abbrev pub ahead : Node → Nodes → Nodes
ahead (Leaf label weight) rest = leaf_of label weight rest
ahead (Inner label weight kids) rest = node_of label weight kids rest

-- the labels of one list of nodes
abbrev pub labels : Nodes → List Name
labels no_nodes = []
labels (leaf_of label weight rest) = label ∷ labels rest
labels (node_of label weight kids rest) = label ∷ labels rest

-- all leaves, at whatever level, in the order of the file
abbrev pub leaves : Nodes → List Name
leaves no_nodes = []
leaves (leaf_of label weight rest) = label ∷ leaves rest
leaves (node_of label weight kids rest) = leaves kids ++ leaves rest

-- ---- members of objects

abbrev pub name_at : List ℕ → Members → Option Name
name_at key members = do
  text ← text_at key members
  if is_name text then Some text else None

-- a weight: a number of 32 bits
abbrev pub weight_at : Members → Option ℕ
weight_at members = do
  weight ← natural_at (codes "weight") members
  if nat_lt weight (2 ^ 32) then Some weight else None

-- a list with so many items: from the least number to the most
abbrev pub list_at : List ℕ → ℕ → ℕ → Members → Option Items
list_at key least most members = do
  value ← get_member key members
  values ← as_array value
  if nat_le least (items_len values) && nat_le (items_len values) most then Some values else None

abbrev pub kids_at_key : Members → Option Items
kids_at_key members = list_at (codes "kids") 1 most_kids members

-- ---- trees

-- {"leaf":NAME,"weight":W}
abbrev pub leaf_in : Data → Option Node
leaf_in value = do
  members ← object_of 2 value
  label ← name_at (codes "leaf") members
  weight ← weight_at members
  Some (Leaf label weight)

-- {"node":NAME,"weight":W,"kids":[..]}, by what its kids are read as
abbrev pub inner_in : (Items → Option Nodes) → Data → Option Node
inner_in kids_by value = do
  members ← object_of 3 value
  label ← name_at (codes "node") members
  weight ← weight_at members
  values ← kids_at_key members
  kids ← kids_by values
  Some (Inner label weight kids)

abbrev pub node_in : (Items → Option Nodes) → Data → Option Node
node_in kids_by value = option_or (leaf_in value) (inner_in kids_by value)

-- each is a node
abbrev pub nodes_by : (Items → Option Nodes) → Items → Option Nodes
nodes_by kids_by no_items = Some no_nodes
nodes_by kids_by (item value values) = do
  node ← node_in kids_by value
  nodes ← nodes_by kids_by values
  Some (ahead node nodes)

-- kids on so many levels at most, with different labels in each list
unfoldable pub kids_in : ℕ → Items → Option Nodes
kids_in zero values = None
kids_in (suc levels) values = do
  nodes ← nodes_by (kids_in levels) values
  if are_different (labels nodes) then Some nodes else None

-- {"name":NAME,"kids":[..]}, with different leaves
abbrev pub tree_in : Data → Option Tree
tree_in value = do
  members ← object_of 2 value
  name ← name_at (codes "name") members
  values ← kids_at_key members
  kids ← kids_in most_levels values
  if are_different (leaves kids) then Some (record { name = name; kids = kids }) else None

-- each is a tree
abbrev pub trees_by : Items → Option Forest
trees_by no_items = Some []
trees_by (item value values) = do
  tree ← tree_in value
  trees ← trees_by values
  Some (tree ∷ trees)

abbrev pub names_of : Forest → List Name
names_of trees = map (λ (t : Tree). t.name) trees

-- the trees of these values, with different names
abbrev pub forest_by : Items → Option Forest
forest_by values = do
  trees ← trees_by values
  if are_different (names_of trees) then Some trees else None

-- the trees of {"version":1,"trees":[..]}, as values
abbrev pub trees_at : Data → Option Items
trees_at value = do
  members ← object_of 2 value
  version ← natural_at (codes "version") members
  if version == 1 then list_at (codes "trees") 0 most_trees members else None

-- the trees of a JSON value
abbrev pub forest_of : Data → Option Forest
forest_of value = do
  values ← trees_at value
  forest_by values

-- the trees that a file spells
abbrev pub forest_in : List ℕ → Option Forest
forest_in bytes = do
  value ← document bytes
  forest_of value
