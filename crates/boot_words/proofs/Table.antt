-- The table of starting values by its places.
use Rattle.std.proofs.Common.{ℕ, zero, suc, ◌+◌, ◌<◌, ◌≡◌, ◌≢◌, List, length, get_or, set, map, Option, arith, refl, sym, ap, ◌∙◌}
use Rattle.std.proofs.Common.{below_more, get_or-set_other, get_or-set_same}
use Rattle.std.proofs.Math.ListN.{length-set}
use Rattle.std.proofs.lemmas.Grind.{same_number_lists}
use Rattle.std.specs.List.{range_with_len}
use Rattle.std.specs.Prelude.{unwrap_or}
use Rattle.boot_words.specs.Boot.{boot_register, boot_registers}

length_mapped : (f : ℕ → ℕ) (a n : ℕ) → length (map f (range_with_len a n)) ≡ n
length_mapped f a zero = refl
length_mapped f a (suc n) = ap suc (length_mapped f (a + 1) n)

mapped_at : (f : ℕ → ℕ) (a n k : ℕ) → k < n → get_or (map f (range_with_len a n)) k 0 ≡ f (a + k)
mapped_at f a zero k lt = absurd (omega arith)
mapped_at f a (suc n) zero lt = ap f (omega arith)
mapped_at f a (suc n) (suc k) lt =
    let next : a + 1 + k ≡ a + suc k = omega arith in mapped_at f (a + 1) n k (omega arith) ∙ ap f next

-- the values of so many registers from x1 on are laid
pub record IsTableUpTo (initial : ℕ → Option ℕ) (n : ℕ) (x : List ℕ) : Type 0 where
  pub long : length x ≡ 31
  pub same : (k : ℕ) → k < n → get_or x k 0 ≡ unwrap_or (initial (k + 1)) 0

-- one more is laid
pub lay_more : (initial : ℕ → Option ℕ) (x : List ℕ) (place value : ℕ) → place < 31 → IsTableUpTo initial place x
    → value ≡ unwrap_or (initial (place + 1)) 0 → IsTableUpTo initial (place + 1) (set x place value)
lay_more initial x place value room before is =
    let lt : place < length x = omega (arith, before.long, room) in
    record {
      long = length-set x place value ∙ before.long;
      same = below_more _ _
          (λ k below. let other : k ≢ place = omega arith in rw get_or-set_other (before.same k below))
          (rw get_or-set_same is);
    }

-- all of them are laid
pub whole_table : (initial : ℕ → Option ℕ) (x : List ℕ) → IsTableUpTo initial 31 x → x ≡ boot_registers initial
whole_table initial x before =
    let f : ℕ → ℕ = boot_register initial in
    same_number_lists _ _ (before.long ∙ sym_length f) (λ k lt.
    let below : k < 31 = omega (arith, before.long, lt) in
    let index : k + 1 ≡ 1 + k = omega arith in
    before.same k below ∙ ap f index ∙ back f k below)
  where
    sym_length : (f : ℕ → ℕ) → 31 ≡ length (map f (range_with_len 1 31))
    sym_length f = refl

    back : (f : ℕ → ℕ) (k : ℕ) → k < 31 → f (1 + k) ≡ get_or (map f (range_with_len 1 31)) k 0
    back f k below = sym (mapped_at f 1 31 k below)

-- the value of the register after so many
pub table_at : (initial : ℕ → Option ℕ) (place : ℕ) → place < 31 → get_or (boot_registers initial) place 0 ≡ unwrap_or (initial (place + 1)) 0
table_at initial place below =
    let index : 1 + place ≡ place + 1 = omega arith in mapped_at (boot_register initial) 1 31 place below ∙ ap (boot_register initial) index
