-- What a further digit, or no further one, makes of a number.
use Rattle.std.proofs.Common.{ℕ, ◌≡◌, ◌+◌, ◌-◌, ◌*◌, ◌^◌, ◌<◌, ◌≤◌, suc, refl, arith, List, [], ◌∷◌, drop, length, get_or, Some, None, Bool, true, false, nat_lt, drop-cons, ◌∙◌, ap}
use Rattle.std.specs.Prelude.{◌&&◌, if◌then◌else◌}
use Rattle.std.specs.List.{list_all}
use Rattle.std.proofs.lemmas.Bool.Decides.{nat_tests}
use Rattle.std.proofs.Math.ListN.{drop_of_length-le}
use Rattle.forge.specs.Words.{is_digit, value_behind}
use Rattle.forge.specs.Parts.{number_behind}

-- a number with digits behind it isn't smaller
value_grows : (n : ℕ) (bytes : List ℕ) → n ≤ value_behind n bytes
value_grows n [] = omega arith
value_grows n (b ∷ bs) =
    let h : 10 * n + (b - 0x30) ≤ value_behind (10 * n + (b - 0x30)) bs = value_grows (10 * n + (b - 0x30)) bs in omega arith

refused : (p q : Bool) (n : ℕ) → q ≡ false → (if p && q then Some n else None) ≡ None
refused true q n h = rw h refl
refused false q n h = refl

too_large : (n : ℕ) (b : ℕ) (bs : List ℕ) → 2 ^ 64 ≤ 10 * n + (b - 0x30) → number_behind n (b ∷ bs) ≡ None
too_large n b bs h =
    let g : 10 * n + (b - 0x30) ≤ value_behind (10 * n + (b - 0x30)) bs = value_grows (10 * n + (b - 0x30)) bs in
    let f : nat_lt (value_behind (10 * n + (b - 0x30)) bs) (2 ^ 64) ≡ false = grind (arith, nat_tests) in
    refused (list_all is_digit (b ∷ bs)) (nat_lt (value_behind (10 * n + (b - 0x30)) bs) (2 ^ 64)) (value_behind (10 * n + (b - 0x30)) bs) f

-- a number that a further digit makes too large
pub number_too_large : (n : ℕ) (bytes : List ℕ) (i : ℕ) → i < length bytes → 2 ^ 64 ≤ 10 * n + (get_or bytes i 0 - 0x30)
    → number_behind n (drop i bytes) ≡ None
number_too_large n bytes i h large = ap (number_behind n) (drop-cons bytes i 0 h) ∙ too_large n (get_or bytes i 0) (drop (suc i) bytes) large

-- a number with no further digit
pub number_ends : (n : ℕ) (bytes : List ℕ) (i : ℕ) → n < 2 ^ 64 → length bytes ≤ i → number_behind n (drop i bytes) ≡ Some n
number_ends n bytes i h e =
    let f : nat_lt n (2 ^ 64) ≡ true = grind (arith, nat_tests) in
    ap (number_behind n) (drop_of_length-le bytes e) ∙ (rw f refl)
