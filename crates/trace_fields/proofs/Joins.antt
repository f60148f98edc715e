-- Texts that are joined by a byte, and cut at it again.
use Rattle.std.proofs.Common.{◌≡◌, ◌≢◌, ℕ, ◌≤◌, List, [], ◌∷◌, ◌++◌, length, map, false, refl, ap, ◌∙◌, arith}
use Rattle.std.specs.Prelude.{◌==◌}
use Rattle.std.specs.List.{AllByRecursion, slice_split, join_with_byte}
use Rattle.std.proofs.lemmas.Bool.{eq-eqb, ne_eqb}
use Rattle.std.proofs.lemmas.List.Elements.{All-from_recursion}
use Rattle.std.proofs.lemmas.List.Splits.{slice_split_at, slice_split_none}

module _ {A : Type 0} where
  pub all_weaken : (P Q : A → Type 0) → ((a : A) → P a → Q a) → (xs : List A) → AllByRecursion P xs → AllByRecursion Q xs
  all_weaken P Q more [] all = tt
  all_weaken P Q more (x ∷ xs) all = (more x all.0, all_weaken P Q more xs all.1)

  pub all_append : (P : A → Type 0) (xs ys : List A) → AllByRecursion P xs → AllByRecursion P ys → AllByRecursion P (xs ++ ys)
  all_append P [] ys front behind = behind
  all_append P (x ∷ xs) ys front behind = (front.0, all_append P xs ys front.1 behind)

  pub all_map : {B : Type 0} (P : B → Type 0) (f : A → B) (xs : List A) → AllByRecursion (λ a. P (f a)) xs → AllByRecursion P (map f xs)
  all_map P f [] all = tt
  all_map P f (x ∷ xs) all = (all.0, all_map P f xs all.1)

-- the text doesn't have this byte
abbrev pub Lacks : ℕ → List ℕ → Type 0
Lacks byte text = AllByRecursion (λ b. (b == byte) ≡ false) text

pub lacks : (P : ℕ → Type 0) (byte : ℕ) → ((b : ℕ) → P b → b ≢ byte) → (text : List ℕ) → AllByRecursion P text → Lacks byte text
lacks P byte other text all = all_weaken P (λ b. (b == byte) ≡ false) (λ b holds. ne_eqb b byte (other b holds)) text all

-- what holds of each byte of the parts and of the byte between them holds of the bytes of the whole
pub joined_all : (P : ℕ → Type 0) (byte : ℕ) (parts : List (List ℕ)) → P byte → AllByRecursion (AllByRecursion P) parts
    → AllByRecursion P (join_with_byte byte parts)
joined_all P byte [] between all = tt
joined_all P byte (x ∷ []) between all = all.0
joined_all P byte (x ∷ y ∷ xs) between all =
    all_append P x (byte ∷ join_with_byte byte (y ∷ xs)) all.0 (between, joined_all P byte (y ∷ xs) between all.1)

-- parts without the byte are cut where they were joined by it
pub parts_again : (byte : ℕ) (parts : List (List ℕ)) → 1 ≤ length parts → AllByRecursion (Lacks byte) parts
    → slice_split (λ b. b == byte) (join_with_byte byte parts) ≡ parts
parts_again byte [] some lack = absurd (omega arith)
parts_again byte (x ∷ []) some lack =
    slice_split_none (λ b. b == byte) x (All-from_recursion (λ b. (b == byte) ≡ false) x lack.0)
parts_again byte (x ∷ y ∷ xs) some lack =
    slice_split_at (λ b. b == byte) x byte (join_with_byte byte (y ∷ xs))
    (All-from_recursion (λ b. (b == byte) ≡ false) x lack.0) (eq-eqb byte byte refl)
    ∙ ap (λ (parts : List (List ℕ)). x ∷ parts) (parts_again byte (y ∷ xs) (omega arith) lack.1)
