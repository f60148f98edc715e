-- What is the same where it is told to be.
use Rattle.std.proofs.Common.{ℕ, ◌≡◌, true, ◌&&◌, eqb, eqb-true, Option, Some, None, refl, ap, ◌∙◌}
use Rattle.std.specs.Option.{option_eq}
use Rattle.std.proofs.lemmas.Bool.{and_parts}

pub same_number : (a b : Option ℕ) → option_eq eqb a b ≡ true → a ≡ b
same_number None None is = refl
same_number None (Some b) is = absurd cc
same_number (Some a) None is = absurd cc
same_number (Some a) (Some b) is = ap Some (eqb-true a b is)

pub same_numbers : (a b : Option (ℕ × ℕ)) → option_eq (λ x y. eqb x.0 y.0 && eqb x.1 y.1) a b ≡ true → a ≡ b
same_numbers None None is = refl
same_numbers None (Some b) is = absurd cc
same_numbers (Some a) None is = absurd cc
same_numbers (Some a) (Some b) is =
    let parts = and_parts (eqb a.0 b.0) (eqb a.1 b.1) is in
    ap (λ n. Some (n, a.1)) (eqb-true a.0 b.0 parts.0) ∙ ap (λ n. Some (b.0, n)) (eqb-true a.1 b.1 parts.1)
