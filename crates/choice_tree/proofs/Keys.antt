-- Names as keys: they are compared by their bytes.
use Rattle.std.proofs.Common.{◌≡◌, ◌-◌, Bool, true, false, cond, ◌&&◌, List, [], ◌∷◌, length, take, replicate, position, eqb, refl, ap, sym, ◌∙◌, nat_lt, not, suc, ◌+◌, Some, None, if◌then◌else◌}
use Rattle.std.specs.List.{list_any, prefix_len}
use Rattle.std.specs.Map.{keys_of}
use Rattle.std.specs.Str.{bytes_eq}
use Rattle.std.proofs.Math.Seq.{take-append_seam}
use Rattle.std.proofs.lemmas.Bool.{and_parts, eqb-true}
use Rattle.std.proofs.lemmas.Cmp.{nat_list_eq_equiv, nat_eq_equiv}
use Rattle.std.proofs.lemmas.Slice.Eq.{bytes_eq-Decides}
use Rattle.rv_fields.specs.Name.{Name, padded}
use Rattle.choice_tree.specs.Forest.{Nodes, Tree}
use Rattle.choice_tree.specs.Seen.{forest_seen}

-- how two names are compared
abbrev pub name_eq : Name → Name → Bool
name_eq a b = eqb (length a) (length b) && bytes_eq (padded a) (padded b)

pub same_names : (a b : Name) → name_eq a b ≡ true → a ≡ b
same_names a b same =
    let parts = and_parts (eqb (length a) (length b)) (bytes_eq (padded a) (padded b)) same in
    let long : length a ≡ length b = eqb-true (length a) (length b) parts.0 in
    let all : padded a ≡ padded b = (bytes_eq-Decides (padded a) (padded b)).0 parts.1 in
    sym (take-append_seam a (replicate (24 - length a) 0)) ∙ ap (take (length a)) all ∙ ap (λ n. take n (padded b)) long ∙ take-append_seam b (replicate (24 - length b) 0)

name_eq_same : (a : Name) → name_eq a a ≡ true
name_eq_same a = rw (nat_eq_equiv.refl (length a)) (nat_list_eq_equiv.refl (padded a))

-- it is that of their bytes
pub by_bytes : (a b : Name) → name_eq a b ≡ bytes_eq a b
by_bytes a b = by (name_eq a b) (bytes_eq a b) refl refl
  where
    by : (x y : Bool) → name_eq a b ≡ x → bytes_eq a b ≡ y → name_eq a b ≡ bytes_eq a b
    by true y e f =
        let same : a ≡ b = same_names a b e in
        e ∙ sym (ap (λ n. bytes_eq a n) (sym same) ∙ nat_list_eq_equiv.refl a)
    by false true e f =
        let same : a ≡ b = (bytes_eq-Decides a b).0 f in
        ap (λ n. name_eq a n) (sym same) ∙ name_eq_same a ∙ sym f
    by false false e f = e ∙ sym f

pub bytes_eq_turned : (a b : Name) → name_eq a b ≡ bytes_eq b a
bytes_eq_turned a b = by_bytes a b ∙ nat_list_eq_equiv.symm a b

pub any_by_bytes : (name : Name) (names : List Name) → list_any (name_eq name) names ≡ list_any (bytes_eq name) names
any_by_bytes name [] = refl
any_by_bytes name (first ∷ names) = rw (by_bytes name first, any_by_bytes name names) refl

prefix_by_bytes : (name : Name) (entries : List (Name × Nodes))
    → prefix_len (λ k. not (name_eq name k)) (keys_of entries) ≡ prefix_len (λ (t : Tree). not (bytes_eq t.name name)) (forest_seen entries)
prefix_by_bytes name [] = refl
prefix_by_bytes name (entry ∷ entries) = λ j. cond (not (bytes_eq_turned name entry.0 j)) (1 + prefix_by_bytes name entries j) 0

same_lengths : (entries : List (Name × Nodes)) → length (keys_of entries) ≡ length (forest_seen entries)
same_lengths [] = refl
same_lengths (entry ∷ entries) = ap suc (same_lengths entries)

pub position_by_bytes : (name : Name) (entries : List (Name × Nodes)) → position (name_eq name) (keys_of entries) ≡ position (λ (t : Tree). bytes_eq t.name name) (forest_seen entries)
position_by_bytes name entries = λ j. if nat_lt (prefix_by_bytes name entries j) (same_lengths entries j) then Some (prefix_by_bytes name entries j) else None
