-- A trail with one more entry.
use Rattle.std.proofs.Common.{ℕ, zero, suc, ◌+◌, ◌<◌, ◌≡◌, List, [], ◌∷◌, ◌++◌, length, take, set, ap, ◌∙◌, refl, arith}
use Rattle.std.proofs.lemmas.List.{take_more_set}
use Rattle.rv_fields.specs.Effect.{Entry}
use Rattle.sv_walk.specs.Views.{entries_of}

abbrev pub entry : ℕ → ℕ → Entry
entry place content = record { at = place; pte = content }

entries_of-set : (places contents : List ℕ) (i a p : ℕ) → entries_of (set places i a) (set contents i p) ≡ set (entries_of places contents) i (entry a p)
entries_of-set [] contents i a p = refl
entries_of-set (x ∷ xs) [] zero a p = refl
entries_of-set (x ∷ xs) [] (suc i) a p = refl
entries_of-set (x ∷ xs) (y ∷ ys) zero a p = refl
entries_of-set (x ∷ xs) (y ∷ ys) (suc i) a p = ap (λ es. entry x y ∷ es) (entries_of-set xs ys i a p)

lt-length-entries_of : (places contents : List ℕ) (i : ℕ) → i < length places → i < length contents → i < length (entries_of places contents)
lt-length-entries_of [] contents i in_places in_contents = in_places
lt-length-entries_of (x ∷ xs) [] i in_places in_contents = in_contents
lt-length-entries_of (x ∷ xs) (y ∷ ys) zero in_places in_contents = omega arith
lt-length-entries_of (x ∷ xs) (y ∷ ys) (suc i) in_places in_contents =
    let behind : i < length (entries_of xs ys) = lt-length-entries_of xs ys i (omega arith) (omega arith) in omega arith

pub one_more : (places contents : List ℕ) (i a p : ℕ) → i < length places → i < length contents
    → take (i + 1) (entries_of (set places i a) (set contents i p)) ≡ take i (entries_of places contents) ++ (entry a p ∷ [])
one_more places contents i a p in_places in_contents =
    ap (take (i + 1)) (entries_of-set places contents i a p)
    ∙ take_more_set (entries_of places contents) i (entry a p) (lt-length-entries_of places contents i in_places in_contents)
