-- Functions of numbers with another value at one place.
use Rattle.std.proofs.Common.{◌≡◌, ℕ, refl}
use Rattle.std.proofs.lemmas.Bool.{eq-eqb}
use Rattle.rv_fields.specs.Hart.{updated}

pub updated_at : {A : Type 0} (f : ℕ → A) (place : ℕ) (a : A) → updated f place a place ≡ a
updated_at f place a = rw (eq-eqb place place refl) refl
