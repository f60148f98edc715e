-- Sets of registers as tables: what a table tells of a register, and what one register more makes of it.
use Rattle.std.proofs.Common.{ℕ, zero, suc, ◌+◌, ◌<◌, ◌≤◌, ◌≡◌, Bool, true, false, cond, ◌||◌, ◌==◌, List, [], ◌∷◌, ◌++◌, filter, length, slice_set, slice_index_or, refl, sym, ap, ◌∙◌, arith}
use Rattle.std.specs.List.{range_with_len}
use Rattle.std.proofs.lemmas.Bool.Decides.{nat_tests}
use Rattle.region_plan.specs.Registers.{is_among, registers, registers_in, rising}

-- tests that agree on a stretch of numbers leave the same of it
filter_same : (f g : ℕ → Bool) (a n : ℕ) → ((r : ℕ) → a ≤ r → r < a + n → f r ≡ g r) → filter f (range_with_len a n) ≡ filter g (range_with_len a n)
filter_same f g a zero same = refl
filter_same f g a (suc n) same =
    let here = same a (omega arith) (omega arith) in
    let rest = filter_same f g (a + 1) n (λ r least most. same r (omega (arith, least)) (omega (arith, most))) in
    ap (λ (xs : List ℕ). cond (f a) (a ∷ xs) xs) rest
    ∙ ap (λ b. cond b (a ∷ filter g (range_with_len (a + 1) n)) (filter g (range_with_len (a + 1) n))) here

-- what is left of a stretch has nothing below it
none_low : (f : ℕ → Bool) (a n r : ℕ) → r < a → is_among (filter f (range_with_len a n)) r ≡ false
none_low f a zero r low = refl
none_low f a (suc n) r low =
    let rest = none_low f (a + 1) n r (omega (arith, low)) in
    let apart : (a == r) ≡ false = grind (arith, nat_tests, low) in
    let behind = filter f (range_with_len (a + 1) n) in
    elim (f a) as (λ b. is_among (cond b (a ∷ behind) behind) r ≡ false) [
      | true ↦ ap (λ b. b || is_among behind r) apart ∙ rest
      | false ↦ rest
    ]

-- and of the stretch exactly what passes the test
among_found : (f : ℕ → Bool) (a n r : ℕ) → a ≤ r → r < a + n → is_among (filter f (range_with_len a n)) r ≡ f r
among_found f a zero r least most = absurd (omega (arith, least, most))
among_found f a (suc n) r least most = by (a == r) refl (λ later. among_found f (a + 1) n r later (omega (arith, most)))
  where
    behind : List ℕ
    behind = filter f (range_with_len (a + 1) n)

    by : (t : Bool) → (a == r) ≡ t → (a + 1 ≤ r → is_among behind r ≡ f r) → is_among (cond (f a) (a ∷ behind) behind) r ≡ f r
    by true same rest =
        let is : a ≡ r = grind (arith, nat_tests, same) in
        let low = none_low f (a + 1) n r (omega (arith, is)) in
        elim (f a) as (λ b. is_among (cond b (a ∷ behind) behind) r ≡ b) [
          | true ↦ ap (λ b. b || is_among behind r) same
          | false ↦ low
        ] ∙ ap f is
    by false other rest =
        let later : a + 1 ≤ r = grind (arith, nat_tests, other, least) in
        elim (f a) as (λ b. is_among (cond b (a ∷ behind) behind) r ≡ f r) [
          | true ↦ ap (λ b. b || is_among behind r) other ∙ rest later
          | false ↦ rest later
        ]

-- the table tells of each register whether it is in the set
pub among_registers : (has : List Bool) (r : ℕ) → r < registers → is_among (registers_in has) r ≡ slice_index_or has r false
unfolding registers_in
among_registers has r small = among_found (λ r. slice_index_or has r false) 0 registers r (omega arith) small

pub none_there : registers_in (false ∷ false ∷ false ∷ false ∷ false ∷ false ∷ false ∷ false ∷ false ∷ false ∷ false ∷ false ∷ false ∷ false ∷ false ∷ false ∷ false ∷ false ∷ false ∷ false ∷ false ∷ false ∷ false ∷ false ∷ false ∷ false ∷ false ∷ false ∷ false ∷ false ∷ false ∷ false ∷ []) ≡ []
unfolding registers_in
none_there = refl

-- a place of the table that is set tells of its register, and the others tell what they told
told_more : (has : List Bool) (k r : ℕ) → k < length has → slice_index_or (slice_set has k true) r false ≡ (k == r) || slice_index_or has r false
told_more [] k r small = absurd (omega (arith, small))
told_more (b ∷ has) zero zero small = refl
told_more (b ∷ has) zero (suc r) small =
    let apart : (0 == suc r) ≡ false = grind (arith, nat_tests) in ap (λ t. t || slice_index_or has r false) (sym apart)
told_more (b ∷ has) (suc k) zero small =
    let apart : (suc k == 0) ≡ false = grind (arith, nat_tests) in ap (λ t. t || b) (sym apart)
told_more (b ∷ has) (suc k) (suc r) small = told_more has k r (omega (arith, small)) ∙ ap (λ t. t || slice_index_or has r false) (shifted k r)
  where
    shifted : (m n : ℕ) → (m == n) ≡ (suc m == suc n)
    shifted m n = by (m == n) refl
      where
        by : (t : Bool) → (m == n) ≡ t → (m == n) ≡ (suc m == suc n)
        by true is = grind (arith, nat_tests, is)
        by false is = grind (arith, nat_tests, is)

-- the table with one register more is that of the set with it
pub one_more : (has : List Bool) (k : ℕ) → length has ≡ registers → k < registers → registers_in (slice_set has k true) ≡ rising (k ∷ registers_in has)
unfolding registers_in rising
one_more has k long small =
    filter_same (λ r. slice_index_or (slice_set has k true) r false) (is_among (k ∷ registers_in has)) 0 registers
    (λ r least most. told_more has k r (omega (arith, long, small)) ∙ ap (λ b. (k == r) || b) (sym (among_registers has r most)))

-- ---- registers that are listed

among_append : (xs ys : List ℕ) (r : ℕ) → is_among (xs ++ ys) r ≡ is_among xs r || is_among ys r
among_append [] ys r = refl
among_append (x ∷ xs) ys r = ap (λ b. (x == r) || b) (among_append xs ys r) ∙ or_over (x == r) (is_among xs r) (is_among ys r)
  where
    or_over : (a b c : Bool) → (a || (b || c)) ≡ ((a || b) || c)
    or_over true b c = refl
    or_over false b c = refl

among_rising : (numbers : List ℕ) (r : ℕ) → r < registers → is_among (rising numbers) r ≡ is_among numbers r
unfolding rising
among_rising numbers r small = among_found (is_among numbers) 0 registers r (omega arith) small

-- a number more of a list is one more in the set of those before
pub rising_more : (members others : List ℕ) (r : ℕ) → rising (rising (r ∷ members) ++ others) ≡ rising (members ++ r ∷ others)
unfolding rising
rising_more members others r = filter_same (is_among (rising (r ∷ members) ++ others)) (is_among (members ++ r ∷ others)) 0 registers (λ q least most.
    among_append (rising (r ∷ members)) others q ∙ ap (λ b. b || is_among others q) (among_rising (r ∷ members) q most)
    ∙ turned_over (r == q) (is_among members q) (is_among others q) ∙ sym (among_append members (r ∷ others) q))
  where
    turned_over : (a b c : Bool) → ((a || b) || c) ≡ (b || (a || c))
    turned_over true true c = refl
    turned_over true false c = refl
    turned_over false true c = refl
    turned_over false false c = refl

-- a set is that of its own registers
pub rising_again : (has : List Bool) → rising (registers_in has) ≡ registers_in has
unfolding rising registers_in
rising_again has = filter_same (is_among (registers_in has)) (λ r. slice_index_or has r false) 0 registers (λ r least most. among_registers has r most)
