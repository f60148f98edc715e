-- A weight that is set in the tree of a name, which is one.
use Rattle.std.proofs.Common.{◌≡◌, ℕ, zero, suc, ◌<◌, true, false, not, List, [], ◌∷◌, get_or, slice_get, Some, refl, ap, sym, ◌∙◌, arith, if◌then◌else◌}
use Rattle.std.specs.List.{list_any}
use Rattle.std.specs.Str.{bytes_eq}
use Rattle.std.proofs.lemmas.Bool.{and_parts}
use Rattle.std.proofs.lemmas.Cmp.{nat_list_eq_equiv}
use Rattle.std.proofs.lemmas.List.Quantifiers.{position-Some}
use Rattle.std.proofs.lemmas.Slice.Eq.{bytes_eq-Decides}
use Rattle.indexmap.specs.Layout.{set_value_at}
use Rattle.rv_fields.specs.Name.{Name}
use Rattle.choice_tree.specs.Forest.{Forest, Nodes, Tree, no_nodes, names_of}
use Rattle.rv_fields.specs.Name.{are_different}
use Rattle.choice_tree.specs.Seen.{forest_seen}
use Rattle.choice_tree.specs.Trees.{tree_number, reweighed, with_weight}
use Rattle.choice_tree.proofs.Different.{or_parts, turned}
use Rattle.choice_tree.proofs.Picks.{values_of}

abbrev no_tree : Tree
no_tree = record { name = []; kids = no_nodes }

abbrev after : Name → List Name → ℕ → Tree → Tree
after name path weight tree = if bytes_eq tree.name name then record tree { kids = reweighed path weight tree.kids } else tree

-- trees of other names stay
kept : (name : Name) (path : List Name) (weight : ℕ) (trees : Forest) → list_any (bytes_eq name) (names_of trees) ≡ false → with_weight trees name path weight ≡ trees
kept name path weight [] absent = refl
kept name path weight (tree ∷ trees) absent =
    let parts = or_parts (bytes_eq name tree.name) (list_any (bytes_eq name) (names_of trees)) absent in
    ap (λ b. (if b then record tree { kids = reweighed path weight tree.kids } else tree) ∷ with_weight trees name path weight) (nat_list_eq_equiv.symm tree.name name ∙ parts.0)
    ∙ ap (λ ts. tree ∷ ts) (kept name path weight trees parts.1)

one_set : (entries : List (Name × Nodes)) (i : ℕ) (old new : Nodes) (name : Name) (path : List Name) (weight : ℕ)
    → are_different (names_of (forest_seen entries)) ≡ true → bytes_eq (get_or (forest_seen entries) i no_tree).name name ≡ true
    → ((k : ℕ) → k < i → bytes_eq (get_or (forest_seen entries) k no_tree).name name ≡ false)
    → slice_get (values_of entries) i ≡ Some old → new ≡ reweighed path weight old
    → forest_seen (set_value_at entries i new) ≡ with_weight (forest_seen entries) name path weight
one_set [] i old new name path weight are here before at is = absurd cc
one_set (entry ∷ entries) zero old new name path weight are here before at is =
    let same : entry.0 ≡ name = (bytes_eq-Decides entry.0 name).0 here in
    let apart = and_parts (not (list_any (bytes_eq entry.0) (names_of (forest_seen entries)))) (are_different (names_of (forest_seen entries))) are in
    let value : entry.1 ≡ old = cc in
    ap (λ kids. record { name = entry.0; kids = kids } ∷ forest_seen entries) (is ∙ ap (reweighed path weight) (sym value))
    ∙ ap (λ b. (if b then record { name = entry.0; kids = reweighed path weight entry.1 } else record { name = entry.0; kids = entry.1 }) ∷ forest_seen entries) (sym here)
    ∙ ap (λ trees. after name path weight (record { name = entry.0; kids = entry.1 }) ∷ trees)
    (sym (kept name path weight (forest_seen entries) (ap (λ n. list_any (bytes_eq n) (names_of (forest_seen entries))) (sym same) ∙ turned _ false apart.0)))
one_set (entry ∷ entries) (suc i) old new name path weight are here before at is =
    let apart = and_parts (not (list_any (bytes_eq entry.0) (names_of (forest_seen entries)))) (are_different (names_of (forest_seen entries))) are in
    ap (λ trees. record { name = entry.0; kids = entry.1 } ∷ trees)
    (one_set entries i old new name path weight apart.1 here (λ k h. before (suc k) (omega (arith, h))) at is)
    ∙ ap (λ b. (if b then record { name = entry.0; kids = reweighed path weight entry.1 } else record { name = entry.0; kids = entry.1 }) ∷ with_weight (forest_seen entries) name path weight)
    (sym (before 0 (omega arith)))

pub weight_set : (entries : List (Name × Nodes)) (i : ℕ) (old new : Nodes) (name : Name) (path : List Name) (weight : ℕ)
    → are_different (names_of (forest_seen entries)) ≡ true → tree_number (forest_seen entries) name ≡ Some i
    → slice_get (values_of entries) i ≡ Some old → new ≡ reweighed path weight old
    → forest_seen (set_value_at entries i new) ≡ with_weight (forest_seen entries) name path weight
weight_set entries i old new name path weight are numbered at is =
    let there = position-Some (λ (t : Tree). bytes_eq t.name name) (forest_seen entries) i no_tree numbered in
    one_set entries i old new name path weight are there.1 there.2 at is

-- a write by index leaves the names
pub names_set : (entries : List (Name × Nodes)) (i : ℕ) (new : Nodes) → names_of (forest_seen (set_value_at entries i new)) ≡ names_of (forest_seen entries)
names_set [] i new = refl
names_set (entry ∷ entries) zero new = refl
names_set (entry ∷ entries) (suc i) new = ap (λ ns. entry.0 ∷ ns) (names_set entries i new)
