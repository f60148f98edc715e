-- The registers before any event.
use Rattle.std.proofs.Common.{◌≡◌, ℕ, zero, suc, Option, Some, None, ◌∷◌, slice_get, replicate, option_and_then, refl, arith}
use Rattle.std.proofs.Math.Path.{fun_ext}
use Rattle.std.proofs.lemmas.Bool.Decides.{nat_tests}
use Rattle.rv_fields.specs.Hart.{updated}
use Rattle.value_file.specs.declared.register.Register.{Register}
use Rattle.value_file.specs.declared.register.Register.TheVariants.{Untouched, Written}
use Rattle.value_file.specs.Register.{initial_value, present_value}

-- the value of each register where x0 alone is touched
abbrev values_at_first : (Register → Option ℕ) → ℕ → ℕ → Option ℕ
values_at_first value n r = option_and_then value (slice_get (Written 0 ∷ replicate n Untouched) r)

-- registers that nothing has touched have no value
value_of_untouched : (value : Register → Option ℕ) → value Untouched ≡ None
    → (n r : ℕ) → option_and_then value (slice_get (replicate n Untouched) r) ≡ None
value_of_untouched value none zero r = refl
value_of_untouched value none (suc n) zero = none
value_of_untouched value none (suc n) (suc r) = value_of_untouched value none n r

initial_at : (n r : ℕ) → values_at_first initial_value n r ≡ None
initial_at n zero = refl
initial_at n (suc r) = value_of_untouched initial_value refl n r

present_at : (n r : ℕ) → values_at_first present_value n r ≡ updated (λ q. None) 0 (Some 0) r
present_at n zero = refl
present_at n (suc r) = rw (value_of_untouched present_value refl n r) (grind (arith, nat_tests))

pub initial_at_first : (n : ℕ) → values_at_first initial_value n ≡ (λ r. None)
initial_at_first n = fun_ext (initial_at n)

pub present_at_first : (n : ℕ) → values_at_first present_value n ≡ updated (λ r. None) 0 (Some 0)
present_at_first n = fun_ext (present_at n)
