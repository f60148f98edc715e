-- A leaf that is picked is one of the tree's.
use Rattle.std.proofs.Common.{◌≡◌, ℕ, ◌-◌, ◌/◌, ◌%◌, ◌==◌, ◌||◌, Bool, true, false, List, [], ◌∷◌, Option, Some, None, nat_lt, position, slice_get, get_or, map, zero, suc, refl, ap, sym, ◌∙◌, if◌then◌else◌}
use Rattle.std.specs.List.{list_any}
use Rattle.std.specs.Str.{bytes_eq}
use Rattle.std.proofs.Math.Bool.{or-true as or_true}
use Rattle.std.proofs.lemmas.Cmp.{nat_list_eq_equiv}
use Rattle.std.proofs.lemmas.List.Folds.{list_any-append}
use Rattle.std.proofs.lemmas.List.Quantifiers.{position-Some}
use Rattle.std.proofs.lemmas.Option.{slice_get-get_or}
use Rattle.rv_fields.specs.Name.{Name}
use Rattle.choice_tree.specs.Forest.{Nodes, leaves, no_nodes, leaf_of, node_of}
use Rattle.choice_tree.specs.Trees.{kids_at, leaf_at, leaf_by, total}
use Rattle.choice_tree.specs.Seen.{forest_seen}
use Rattle.choice_tree.proofs.Keys.{name_eq, same_names}

abbrev Among : Name → Nodes → Type 0
Among label nodes = list_any (bytes_eq label) (leaves nodes) ≡ true

or_right : (a b : Bool) → b ≡ true → (a || b) ≡ true
or_right a b is = rw is (or_true a)

or_left : (a b : Bool) → a ≡ true → (a || b) ≡ true
or_left a b is = rw is refl

if_some : (b : Bool) (label : Name) (m n : Option Name) (P : Type 0) → (m ≡ Some label → P) → (n ≡ Some label → P) → (if b then m else n) ≡ Some label → P
if_some true label m n P h k e = h e
if_some false label m n P h k e = k e

leaf_among : (nodes : Nodes) (number word : ℕ) (label : Name) → leaf_at nodes number word ≡ Some label → Among label nodes
leaf_among no_nodes number word label e = absurd cc
leaf_among (leaf_of first weight rest) number word label e =
    if_some (nat_lt number weight) label (Some first) (leaf_at rest (number - weight) word) (Among label (leaf_of first weight rest))
    (λ f. let is : label ≡ first = cc in or_left (bytes_eq label first) _ (ap (bytes_eq label) (sym is) ∙ nat_list_eq_equiv.refl label))
    (λ f. or_right (bytes_eq label first) _ (leaf_among rest (number - weight) word label f)) e
leaf_among (node_of first weight kids rest) number word label e =
    list_any-append (bytes_eq label) (leaves kids) (leaves rest)
    ∙ if_some (nat_lt number weight) label (if total kids == 0 then None else leaf_at kids (word % total kids) (word / total kids)) (leaf_at rest (number - weight) word)
    ((list_any (bytes_eq label) (leaves kids) || list_any (bytes_eq label) (leaves rest)) ≡ true)
    (λ f. if_some (total kids == 0) label None (leaf_at kids (word % total kids) (word / total kids)) ((list_any (bytes_eq label) (leaves kids) || list_any (bytes_eq label) (leaves rest)) ≡ true)
    (λ none. absurd cc) (λ g. or_left _ _ (leaf_among kids (word % total kids) (word / total kids) label g)) f)
    (λ f. or_right _ _ (leaf_among rest (number - weight) word label f)) e

pub picked_among : (nodes : Nodes) (word : ℕ) (label : Name) → leaf_by nodes word ≡ Some label → Among label nodes
picked_among nodes word label e =
    if_some (total nodes == 0) label None (leaf_at nodes (word % total nodes) (word / total nodes)) (Among label nodes)
    (λ none. absurd cc) (λ f. leaf_among nodes (word % total nodes) (word / total nodes) label f) e

-- where a name stands in a list
pub position_leaf : (label : Name) (names : List Name) (i : ℕ) → Some i ≡ position (name_eq label) names → slice_get names i ≡ Some label
position_leaf label names i at =
    let there = position-Some (name_eq label) names i label (sym at) in
    slice_get-get_or names i label there.0 ∙ ap Some (sym (same_names label (get_or names i label) there.1))

-- the kids at a place
abbrev pub values_of : List (Name × Nodes) → List Nodes
values_of entries = map (λ e. e.1) entries

pub kids_seen : (entries : List (Name × Nodes)) (tree : ℕ) (kids : Nodes) → slice_get (values_of entries) tree ≡ Some kids → kids_at (forest_seen entries) tree ≡ kids
kids_seen [] tree kids at = absurd cc
kids_seen (entry ∷ entries) zero kids at = cc
kids_seen (entry ∷ entries) (suc tree) kids at = kids_seen entries tree kids at
