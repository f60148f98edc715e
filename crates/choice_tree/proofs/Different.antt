-- Lists of different names, as far as a loop has come.
use Rattle.std.proofs.Common.{◌≡◌, ℕ, ◌+◌, ◌<◌, Bool, true, false, not, ◌||◌, List, [], ◌∷◌, ◌++◌, length, take, drop, get_or, refl, ap, sym, ◌∙◌, add-one, if◌then◌else◌}
use Rattle.std.specs.List.{list_any}
use Rattle.std.specs.Str.{bytes_eq}
use Rattle.std.proofs.lemmas.Bool.{and_parts}
use Rattle.std.proofs.lemmas.Cmp.{nat_list_eq_equiv}
use Rattle.std.proofs.lemmas.List.Folds.{list_any-append}
use Rattle.std.proofs.Math.Bool.{or-true as or_true, and-false as and_false}
use Rattle.std.proofs.Math.Seq.{take-suc}
use Rattle.std.proofs.lemmas.List.{at_drop_more, take-append-drop}
use Rattle.rv_fields.specs.Name.{Name}
use Rattle.rv_fields.specs.Name.{are_different}
use Rattle.choice_tree.proofs.Keys.{any_by_bytes, name_eq}

-- what a test says that was turned
pub turned : (a b : Bool) → not a ≡ not b → a ≡ b
turned true true same = refl
turned true false same = absurd cc
turned false true same = absurd cc
turned false false same = refl

pub or_parts : (a b : Bool) → (a || b) ≡ false → (a ≡ false) × (b ≡ false)
or_parts true b none = absurd cc
or_parts false b none = (refl, none)

bytes_sym : (a b : List ℕ) → bytes_eq a b ≡ true → bytes_eq b a ≡ true
bytes_sym a b same = sym (nat_list_eq_equiv.symm a b) ∙ same

any_in_middle : (name first : Name) (front rest : List Name) → bytes_eq name first ≡ true → list_any (bytes_eq first) (front ++ name ∷ rest) ≡ true
any_in_middle name first [] rest same = rw (bytes_sym name first same) refl
any_in_middle name first (f ∷ front) rest same = rw (any_in_middle name first front rest same) (or_true (bytes_eq first f))

-- a list of which the front holds a name that stands behind it once more
pub not_different : (front : List Name) (name : Name) (rest : List Name) → list_any (bytes_eq name) front ≡ true → are_different (front ++ name ∷ rest) ≡ false
not_different [] name rest there = absurd cc
not_different (first ∷ front) name rest there = by (bytes_eq name first) refl (not_different front name rest)
  where
    by : (b : Bool) → bytes_eq name first ≡ b → (list_any (bytes_eq name) front ≡ true → are_different (front ++ name ∷ rest) ≡ false)
        → are_different (first ∷ front ++ name ∷ rest) ≡ false
    by true e behind = rw (any_in_middle name first front rest e) refl
    by false e behind =
        rw (behind (sym (ap (λ b. b || list_any (bytes_eq name) front) e) ∙ there)) (and_false (not (list_any (bytes_eq first) (front ++ name ∷ rest))))

-- one more name that the others don't hold
pub different_more : (front : List Name) (name : Name) → are_different front ≡ true → list_any (bytes_eq name) front ≡ false → are_different (front ++ name ∷ []) ≡ true
different_more [] name are absent = refl
different_more (first ∷ front) name are absent =
    let parts = and_parts (not (list_any (bytes_eq first) front)) (are_different front) are in
    let apart = or_parts (bytes_eq name first) (list_any (bytes_eq name) front) absent in
    rw (list_any-append (bytes_eq first) front (name ∷ []), turned _ false parts.0, sym (nat_list_eq_equiv.symm name first) ∙ apart.0) (different_more front name parts.1 apart.1)

-- ---- names that are read into a set

front_more : (names : List Name) (i : ℕ) (name : Name) → i < length names → name ≡ get_or names i name → take (i + 1) names ≡ take i names ++ name ∷ []
front_more names i name small at = ap (λ k. take k names) (add-one i) ∙ take-suc names i name small ∙ ap (λ n. take i names ++ n ∷ []) (sym at)

pub set_more : (names : List Name) (i : ℕ) (name : Name) (keys new : List Name) → i < length names → name ≡ get_or names i name
    → keys ≡ take i names → are_different (take i names) ≡ true → list_any (name_eq name) keys ≡ false
    → new ≡ (if list_any (name_eq name) keys then keys else keys ++ name ∷ [])
    → (new ≡ take (i + 1) names) × (are_different (take (i + 1) names) ≡ true)
set_more names i name keys new small at front are absent is =
    let more = front_more names i name small at in
    let absent_before : list_any (bytes_eq name) (take i names) ≡ false =
    sym (any_by_bytes name (take i names)) ∙ ap (list_any (name_eq name)) (sym front) ∙ absent in (
      is ∙ ap (λ b. if b then keys else keys ++ name ∷ []) absent ∙ ap (λ ks. ks ++ name ∷ []) front ∙ sym more,
      ap are_different more ∙ different_more (take i names) name are absent_before,
    )

pub set_twice : (names : List Name) (i : ℕ) (name : Name) (keys : List Name) → i < length names → name ≡ get_or names i name
    → keys ≡ take i names → list_any (name_eq name) keys ≡ true → are_different names ≡ false
set_twice names i name keys small at front there =
    let rest : drop i names ≡ name ∷ drop (i + 1) names =
    at_drop_more (λ ns. ns) names i name small ∙ ap (λ n. n ∷ drop (i + 1) names) (sym at) in
    let there_before : list_any (bytes_eq name) (take i names) ≡ true =
    sym (any_by_bytes name (take i names)) ∙ ap (list_any (name_eq name)) (sym front) ∙ there in
    ap are_different (sym (take-append-drop i names) ∙ ap (λ ns. take i names ++ ns) rest) ∙ not_different (take i names) name (drop (i + 1) names) there_before
