-- Words that are spelt have 32 bits.
use Rattle.std.proofs.Common.{ℕ, ◌^◌, ◌<◌, ◌≤◌, ◌≡◌, Bool, true, false, ◌&&◌, ltb, List, [], ◌∷◌, None, refl, arith, lit<}
use Rattle.std.specs.List.{AllByRecursion}
use Rattle.std.proofs.lemmas.Bool.Decides.{nat_tests}
use Rattle.rv_fields.specs.Decode.{Decoded}
use Rattle.rv_fields.specs.RowTable.{form_of, value_of}
use Rattle.rv_fields.specs.Play.{most_harts}
use Rattle.rv_fields.proofs.OneRow.{value_masked}
use Rattle.rv_encode.specs.Fitting.{misfit}
use Rattle.rv_encode.proofs.Encoded.{all_fit}
use Rattle.rv_encode.proofs.Packing.{packed_lt}
use Rattle.boot_words.specs.Boot.{boot_block, dispatcher, spelled}
use Rattle.boot_words.proofs.Dispatched.{count_fits, to_count}

pub spelled_small : (d : Decoded) → misfit (form_of d.ins) d.ops ≡ None → spelled d < 2 ^ 32
spelled_small d fits = packed_lt (form_of d.ins) (value_of d.ins) d.ops (value_masked d.ins) (all_fit (form_of d.ins) d.ops fits)

abbrev pub AreWords : List ℕ → Type 0
AreWords words = AllByRecursion (λ w. w < 2 ^ 32) words

pub dispatcher_small : (harts : ℕ) → harts ≤ most_harts → AreWords (dispatcher harts)
dispatcher_small harts few =
    (lit< tt, (spelled_small (to_count harts) (count_fits harts (omega arith)), (lit< tt, (lit< tt, (lit< tt, (lit< tt, (lit< tt, (lit< tt, tt))))))))

-- whether all are below the bound
abbrev all_below : ℕ → List ℕ → Bool
all_below bound [] = true
all_below bound (w ∷ words) = ltb w bound && all_below bound words

are_below : (bound : ℕ) (words : List ℕ) → all_below bound words ≡ true → AllByRecursion (λ w. w < bound) words
are_below bound [] is = tt
are_below bound (w ∷ words) is = of (ltb w bound) (all_below bound words) refl is (are_below bound words)
  where
    of : (t u : Bool) → t ≡ ltb w bound → (t && u) ≡ true → (u ≡ true → AllByRecursion (λ w. w < bound) words) → (w < bound) × AllByRecursion (λ w. w < bound) words
    of true u e is rest = (grind (arith, nat_tests), rest is)
    of false u e is rest = absurd cc

pub block_small : AreWords boot_block
block_small = are_below (2 ^ 32) boot_block refl
