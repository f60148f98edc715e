-- Trees that are read one after another, under different names.
use Rattle.std.proofs.Common.{◌≡◌, ℕ, ◌+◌, ◌<◌, Bool, true, false, cond, List, [], ◌∷◌, ◌++◌, length, drop, get_or, is_some, Option, Some, None, refl, ap, sym, ◌∙◌, append_assoc, ◌||◌, if◌then◌else◌}
use Rattle.std.specs.List.{list_any}
use Rattle.std.specs.Map.{keys_of, lookup}
use Rattle.std.specs.Str.{bytes_eq}
use Rattle.serde_json.specs.declared.value.Value.{Value}
use Rattle.serde_json.specs.View.{view, items_view}
use Rattle.rv_fields.specs.Attempt.{◌>>=◌}
use Rattle.rv_fields.specs.Name.{Name}
use Rattle.choice_tree.specs.Forest.{Forest, Nodes, Tree, forest_by, tree_in, trees_by, names_of}
use Rattle.rv_fields.specs.Name.{are_different}
use Rattle.choice_tree.specs.Seen.{forest_seen, tree_seen}
use Rattle.choice_tree.proofs.Different.{different_more, not_different}
use Rattle.choice_tree.proofs.Each.{tree_more}
use Rattle.choice_tree.proofs.Keys.{any_by_bytes, name_eq}

names_of_keys : (entries : List (Name × Nodes)) → names_of (forest_seen entries) ≡ keys_of entries
names_of_keys [] = refl
names_of_keys (entry ∷ entries) = ap (λ ns. entry.0 ∷ ns) (names_of_keys entries)

names_behind : (front others : Forest) → names_of (front ++ others) ≡ names_of front ++ names_of others
names_behind [] others = refl
names_behind (tree ∷ front) others = ap (λ ns. tree.name ∷ ns) (names_behind front others)

-- a key is found where it is among the keys
found_key : (test : Name → Bool) (entries : List (Name × Nodes)) → is_some (lookup test entries) ≡ list_any test (keys_of entries)
found_key test [] = refl
found_key test (entry ∷ entries) = by (test entry.0) (found_key test entries)
  where
    by : (b : Bool) → is_some (lookup test entries) ≡ list_any test (keys_of entries)
        → is_some (cond b (Some entry.1) (lookup test entries)) ≡ (b || list_any test (keys_of entries))
    by true rest = refl
    by false rest = rest

pub name_found : (name : Name) (entries : List (Name × Nodes)) (b : Bool) → is_some (lookup (name_eq name) entries) ≡ b → list_any (bytes_eq name) (names_of (forest_seen entries)) ≡ b
name_found name entries b found =
    ap (list_any (bytes_eq name)) (names_of_keys entries) ∙ sym (any_by_bytes name (keys_of entries)) ∙ sym (found_key (name_eq name) entries) ∙ found

-- a name that stands in the trees before leaves no forest
pub tree_twice : (values : List Value) (index : ℕ) (front : Forest) (value : Value) (tree : Tree) → index < length values → get_or values index value ≡ value
    → tree_in (view value) ≡ Some tree → list_any (bytes_eq tree.name) (names_of front) ≡ true
    → (trees_by (items_view (drop index values)) >>= λ others. Some (front ++ others)) ≡ trees_by (items_view values)
    → forest_by (items_view values) ≡ None
tree_twice values index front value tree small at read there whole =
    ap (λ m. m >>= λ trees. if are_different (names_of trees) then Some trees else None)
    (sym (tree_more values index front (front ++ tree ∷ []) value tree _ small at read refl whole))
    ∙ by (trees_by (items_view (drop (index + 1) values)))
  where
    by : (m : Option Forest) → ((m >>= λ others. Some ((front ++ tree ∷ []) ++ others)) >>= λ trees. if are_different (names_of trees) then Some trees else None) ≡ None
    by None = refl
    by (Some others) =
        let split : names_of ((front ++ tree ∷ []) ++ others) ≡ names_of front ++ tree.name ∷ names_of others =
        ap names_of (append_assoc front (tree ∷ []) others) ∙ names_behind front (tree ∷ others) in
        ap (λ b. if b then Some ((front ++ tree ∷ []) ++ others) else None) (ap are_different split ∙ not_different (names_of front) tree.name (names_of others) there)

pub tree_new : (front : Forest) (tree : Tree) → are_different (names_of front) ≡ true → list_any (bytes_eq tree.name) (names_of front) ≡ false
    → are_different (names_of (front ++ tree ∷ [])) ≡ true
tree_new front tree are absent = ap are_different (names_behind front (tree ∷ [])) ∙ different_more (names_of front) tree.name are absent

pub forest_more : (entries : List (Name × Nodes)) (entry : Name × Nodes) → forest_seen (entries ++ entry ∷ []) ≡ forest_seen entries ++ tree_seen entry ∷ []
forest_more [] entry = refl
forest_more (first ∷ entries) entry = ap (λ trees. tree_seen first ∷ trees) (forest_more entries entry)

pub none_found : {A : Type 0} (found : Option A) → is_some found ≡ false → found ≡ None
none_found None none = refl
none_found (Some a) none = absurd cc
