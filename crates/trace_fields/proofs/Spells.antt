-- What it is that a reading is the inverse of a spelling.
use Rattle.std.proofs.Common.{◌≡◌, ℕ, List, Option, Some}

-- The reading tells a thing exactly where the field is its text, and the thing fits.
pub record Spells {A : Type 0} (text : A → List ℕ) (reading : List ℕ → Option A) (Fits : A → Type 0) : Type 0 where
  pub back : (field : List ℕ) (a : A) → reading field ≡ Some a → Fits a × (text a ≡ field)
  pub again : (a : A) → Fits a → reading (text a) ≡ Some a
