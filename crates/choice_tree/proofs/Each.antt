-- Values that are read one after another, as far as a loop has come.
use Rattle.std.proofs.Common.{ℕ, ◌+◌, ◌<◌, ◌≤◌, ◌≡◌, List, [], ◌∷◌, ◌++◌, length, drop, get_or, Option, Some, None, refl, ap, sym, subst, ◌∙◌, append_assoc, append-nil}
use Rattle.std.proofs.lemmas.List.{at_drop_all, at_drop_more}
use Rattle.serde_json.specs.declared.value.Value.{Value}
use Rattle.serde_json.specs.Data.{Data, Items as Values, no_items as no_values, item}
use Rattle.serde_json.specs.View.{view, items_view}
use Rattle.rv_fields.specs.Attempt.{◌>>=◌}
use Rattle.choice_tree.specs.declared.kids.Node.{Node}
use Rattle.choice_tree.specs.Forest.{Forest, Nodes, Tree, ahead, no_nodes, node_in, nodes_by, tree_in, trees_by}
use Rattle.choice_tree.specs.Seen.{all_ahead, nodes_seen}

-- One value more is read: what was read so far, ahead of what the values left give, is the whole as before.
one_more : {Y Z : Type 0} (read_one : Data → Option Y) (read_all : Values → Option Z) (join : Y → Z → Z)
    → ((v : Data) (vs : Values) → read_all (item v vs) ≡ (read_one v >>= λ y. (read_all vs >>= λ z. Some (join y z))))
    → (values : List Value) (index : ℕ) (value : Value) (found : Y) (old new : Z → Z) (all : Option Z)
    → index < length values → get_or values index value ≡ value → read_one (view value) ≡ Some found → ((z : Z) → new z ≡ old (join found z))
    → (read_all (items_view (drop index values)) >>= λ others. Some (old others)) ≡ all
    → (read_all (items_view (drop (index + 1) values)) >>= λ others. Some (new others)) ≡ all
one_more {Y} {Z} read_one read_all join by_one values index value found old new all small at read is whole =
    let rest : List Value = drop (index + 1) values in
    let F : List Value → Option Z = λ vs. read_all (items_view vs) >>= λ others. Some (old others) in
    let before : F (value ∷ rest) ≡ all = ap (λ v. F (v ∷ rest)) (sym at) ∙ sym (at_drop_more F values index value small) ∙ whole in
    let split : ((read_one (view value) >>= λ y. (read_all (items_view rest) >>= λ z. Some (join y z))) >>= λ others. Some (old others)) ≡ all =
    subst (λ m. (m >>= λ others. Some (old others)) ≡ all) (by_one (view value) (items_view rest)) before in
    let read_first : ((read_all (items_view rest) >>= λ z. Some (join found z)) >>= λ others. Some (old others)) ≡ all =
    subst (λ m. ((m >>= λ y. (read_all (items_view rest) >>= λ z. Some (join y z))) >>= λ others. Some (old others)) ≡ all) read split in
    joined (read_all (items_view rest)) ∙ read_first
  where
    joined : (m : Option Z) → (m >>= λ others. Some (new others)) ≡ ((m >>= λ z. Some (join found z)) >>= λ others. Some (old others))
    joined None = refl
    joined (Some z) = ap Some (is z)

-- no value is left: what was read so far is the whole
none_left : {Z : Type 0} (read_all : Values → Option Z) (none : Z) → read_all no_values ≡ Some none
    → (values : List Value) (index : ℕ) (old : Z → Z) (all : Option Z)
    → length values ≤ index → (read_all (items_view (drop index values)) >>= λ others. Some (old others)) ≡ all → all ≡ Some (old none)
none_left read_all none at_none values index old all end whole =
    sym whole ∙ at_drop_all (λ vs. read_all (items_view vs) >>= λ others. Some (old others)) values index end ∙ ap (λ m. m >>= λ others. Some (old others)) at_none

-- a value that isn't read leaves nothing
unread : {Y Z : Type 0} (read_one : Data → Option Y) (read_all : Values → Option Z) (join : Y → Z → Z)
    → ((v : Data) (vs : Values) → read_all (item v vs) ≡ (read_one v >>= λ y. (read_all vs >>= λ z. Some (join y z))))
    → (values : List Value) (index : ℕ) (value : Value) (old : Z → Z) (all : Option Z)
    → index < length values → get_or values index value ≡ value → read_one (view value) ≡ None
    → (read_all (items_view (drop index values)) >>= λ others. Some (old others)) ≡ all → all ≡ None
unread {Y} {Z} read_one read_all join by_one values index value old all small at none whole =
    let rest : List Value = drop (index + 1) values in
    let F : List Value → Option Z = λ vs. read_all (items_view vs) >>= λ others. Some (old others) in
    sym whole ∙ at_drop_more F values index value small ∙ ap (λ v. F (v ∷ rest)) at
    ∙ ap (λ m. m >>= λ others. Some (old others)) (by_one (view value) (items_view rest))
    ∙ ap (λ m. (m >>= λ y. (read_all (items_view rest) >>= λ z. Some (join y z))) >>= λ others. Some (old others)) none

-- ---- nodes

all_ahead_of_none : (nodes : List Node) → all_ahead nodes no_nodes ≡ nodes_seen nodes
all_ahead_of_none [] = refl
all_ahead_of_none (node ∷ nodes) = ap (ahead node) (all_ahead_of_none nodes)

pub all_ahead_more : (nodes : List Node) (node : Node) (rest : Nodes) → all_ahead (nodes ++ node ∷ []) rest ≡ all_ahead nodes (ahead node rest)
all_ahead_more [] node rest = refl
all_ahead_more (first ∷ nodes) node rest = ap (ahead first) (all_ahead_more nodes node rest)

pub node_more : (kids_by : Values → Option Nodes) (values : List Value) (index : ℕ) (old new : List Node) (value : Value) (node : Node) (all : Option Nodes)
    → index < length values → get_or values index value ≡ value → node_in kids_by (view value) ≡ Some node → new ≡ old ++ node ∷ []
    → (nodes_by kids_by (items_view (drop index values)) >>= λ others. Some (all_ahead old others)) ≡ all
    → (nodes_by kids_by (items_view (drop (index + 1) values)) >>= λ others. Some (all_ahead new others)) ≡ all
node_more kids_by values index old new value node all small at read is whole =
    one_more (node_in kids_by) (nodes_by kids_by) ahead (λ v vs. refl) values index value node (all_ahead old) (all_ahead new) all small at read
    (λ others. ap (λ nodes. all_ahead nodes others) is ∙ all_ahead_more old node others) whole

pub nodes_all : (kids_by : Values → Option Nodes) (values : List Value) (index : ℕ) (nodes : List Node) → length values ≤ index
    → (nodes_by kids_by (items_view (drop index values)) >>= λ others. Some (all_ahead nodes others)) ≡ nodes_by kids_by (items_view values)
    → nodes_by kids_by (items_view values) ≡ Some (nodes_seen nodes)
nodes_all kids_by values index nodes end whole =
    none_left (nodes_by kids_by) no_nodes refl values index (all_ahead nodes) _ end whole ∙ ap Some (all_ahead_of_none nodes)

pub no_nodes_read : (kids_by : Values → Option Nodes) (values : List Value) (index : ℕ) (nodes : List Node) (value : Value)
    → index < length values → get_or values index value ≡ value → node_in kids_by (view value) ≡ None
    → (nodes_by kids_by (items_view (drop index values)) >>= λ others. Some (all_ahead nodes others)) ≡ nodes_by kids_by (items_view values)
    → nodes_by kids_by (items_view values) ≡ None
no_nodes_read kids_by values index nodes value small at none whole =
    unread (node_in kids_by) (nodes_by kids_by) ahead (λ v vs. refl) values index value (all_ahead nodes) _ small at none whole

-- ---- trees

pub tree_more : (values : List Value) (index : ℕ) (old new : Forest) (value : Value) (tree : Tree) (all : Option Forest)
    → index < length values → get_or values index value ≡ value → tree_in (view value) ≡ Some tree → new ≡ old ++ tree ∷ []
    → (trees_by (items_view (drop index values)) >>= λ others. Some (old ++ others)) ≡ all
    → (trees_by (items_view (drop (index + 1) values)) >>= λ others. Some (new ++ others)) ≡ all
tree_more values index old new value tree all small at read is whole =
    one_more tree_in trees_by (λ t ts. t ∷ ts) (λ v vs. refl) values index value tree (λ others. old ++ others) (λ others. new ++ others) all small at read
    (λ others. ap (λ trees. trees ++ others) is ∙ append_assoc old (tree ∷ []) others) whole

pub trees_all : (values : List Value) (index : ℕ) (trees : Forest) → length values ≤ index
    → (trees_by (items_view (drop index values)) >>= λ others. Some (trees ++ others)) ≡ trees_by (items_view values)
    → trees_by (items_view values) ≡ Some trees
trees_all values index trees end whole =
    none_left trees_by [] refl values index (λ others. trees ++ others) _ end whole ∙ ap Some (append-nil trees)

pub no_trees_read : (values : List Value) (index : ℕ) (trees : Forest) (value : Value)
    → index < length values → get_or values index value ≡ value → tree_in (view value) ≡ None
    → (trees_by (items_view (drop index values)) >>= λ others. Some (trees ++ others)) ≡ trees_by (items_view values)
    → trees_by (items_view values) ≡ None
no_trees_read values index trees value small at none whole =
    unread tree_in trees_by (λ t ts. t ∷ ts) (λ v vs. refl) values index value (λ others. trees ++ others) _ small at none whole
