-- Lists: their elements, by place and by membership.
use Rattle.std.proofs.Common.{◌≡◌, ◌≢◌, ℕ, zero, suc, ◌<◌, List, [], ◌∷◌, ◌++◌, length, set, get_or, Some, refl, sym, ap, subst, ◌∙◌, ◌⊎◌, inl, inr, arith}
use Rattle.std.specs.Prelude.{Contains}
use Rattle.std.specs.List.{AllByRecursion, slice_get}
use Rattle.std.proofs.lemmas.List.{get_or-set_same, length-set}
use Rattle.std.proofs.lemmas.Option.{slice_get-get_or}

-- what holds of each element holds of the one at a place
pub each_at : {A : Type 0} (P : A → Type 0) (xs : List A) (i : ℕ) (x : A) → AllByRecursion P xs → slice_get xs i ≡ Some x → P x
each_at P [] i x all at = absurd cc
each_at P (y ∷ ys) zero x all at = let same : y ≡ x = cc in subst P same all.0
each_at P (y ∷ ys) (suc i) x all at = each_at P ys i x all.1 at

-- ---- members of short lists

pub in_nothing : {A : Type 0} (x : A) → Contains [] x → ⊥
in_nothing x c = omega (arith, c.1)

pub in_one : {A : Type 0} (y x : A) → Contains (y ∷ []) x → y ≡ x
in_one y x c = at c.0 c.1 c.2
  where
    at : (k : ℕ) → k < 1 → get_or (y ∷ []) k x ≡ x → y ≡ x
    at zero small e = e
    at (suc k) small e = absurd (omega (arith, small))

-- ---- lists with an element more, or another one

-- an element of a list with one more is one of the list's, or that one
pub get_of_more : {A : Type 0} (xs : List A) (x : A) (k : ℕ) (y : A) → slice_get (xs ++ x ∷ []) k ≡ Some y
    → (slice_get xs k ≡ Some y) ⊎ ((k ≡ length xs) × (x ≡ y))
get_of_more [] x zero y e = inr (refl, cc)
get_of_more [] x (suc k) y e = absurd cc
get_of_more (z ∷ zs) x zero y e = inl e
get_of_more (z ∷ zs) x (suc k) y e = elim (get_of_more zs x k y e) [ inl within ↦ inl within | inr here ↦ inr (ap suc here.0, here.1) ]

pub get_of_set_other : {A : Type 0} (xs : List A) (i : ℕ) (a : A) (k : ℕ) → k ≢ i → slice_get (set xs i a) k ≡ slice_get xs k
get_of_set_other [] i a k apart = refl
get_of_set_other (x ∷ xs) zero a zero apart = absurd (apart refl)
get_of_set_other (x ∷ xs) zero a (suc k) apart = refl
get_of_set_other (x ∷ xs) (suc i) a zero apart = refl
get_of_set_other (x ∷ xs) (suc i) a (suc k) apart = get_of_set_other xs i a k (λ same. apart (ap suc same))

pub get_of_set_same : {A : Type 0} (xs : List A) (i : ℕ) (a : A) → i < length xs → slice_get (set xs i a) i ≡ Some a
get_of_set_same xs i a below =
    let long : i < length (set xs i a) = subst (λ n. i < n) (sym (length-set xs i a)) below in
    slice_get-get_or (set xs i a) i a long ∙ ap Some (get_or-set_same xs i a a below)
