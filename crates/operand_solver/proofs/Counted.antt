-- The registers that an operand may be, counted from the lowest on.
use Rattle.std.proofs.Common.{ℕ, zero, suc, ◌+◌, ◌-◌, ◌<◌, ◌≤◌, ◌≡◌, Bool, true, false, not, cond, ◌&&◌, ◌==◌, List, [], ◌∷◌, length, filter, get_or, None, inl, inr, ◌⊎◌, ne_eqb, refl, sym, ap, subst, ◌∙◌, arith}
use Rattle.std.specs.List.{range_with_len}
use Rattle.std.proofs.lemmas.Bool.{eqb-true}
use Rattle.std.proofs.lemmas.Bool.Decides.{nat_tests}
use Rattle.region_plan.specs.Registers.{is_among, registers}
use Rattle.region_plan.specs.Request.{Pins}
use Rattle.operand_solver.specs.Drawing.{allowed_to}
use Rattle.operand_solver.proofs.Drawn.{is_allowed}

-- those from a register on
unfoldable pub left_from : Pins → ℕ → List ℕ
left_from pins r = filter (is_allowed pins None) (range_with_len r (registers - r))

next_left : (pins : Pins) (r : ℕ) → r < registers → left_from pins r ≡ cond (is_allowed pins None r) (r ∷ left_from pins (r + 1)) (left_from pins (r + 1))
unfolding left_from
next_left pins r small = let one : registers - r ≡ suc (registers - (r + 1)) = omega (arith, small) in ap (λ n. filter (is_allowed pins None) (range_with_len r n)) one

-- one that isn't avoided is the first of them
pub taken : (pins : Pins) (r : ℕ) → r < registers → is_among pins.avoid r ≡ false → left_from pins r ≡ r ∷ left_from pins (r + 1)
taken pins r small apart = next_left pins r small ∙ ap (λ t. cond (not t && true) (r ∷ left_from pins (r + 1)) (left_from pins (r + 1))) apart

-- one that is avoided is none of them
pub passed_over : (pins : Pins) (r : ℕ) → r < registers → is_among pins.avoid r ≡ true → left_from pins r ≡ left_from pins (r + 1)
passed_over pins r small avoided = next_left pins r small ∙ ap (λ t. cond (not t && true) (r ∷ left_from pins (r + 1)) (left_from pins (r + 1))) avoided

few_left : (f : ℕ → Bool) (a n : ℕ) → length (filter f (range_with_len a n)) ≤ n
few_left f a zero = omega arith
few_left f a (suc n) = of (f a) (few_left f (a + 1) n)
  where
    of : (t : Bool) → length (filter f (range_with_len (a + 1) n)) ≤ n → length (cond t (a ∷ filter f (range_with_len (a + 1) n)) (filter f (range_with_len (a + 1) n))) ≤ suc n
    of true few = omega (arith, few)
    of false few = omega (arith, few)

pub few_from : (pins : Pins) (r : ℕ) → length (left_from pins r) ≤ registers - r
unfolding left_from
few_from pins r = few_left (is_allowed pins None) r (registers - r)

pub all_left : (pins : Pins) → left_from pins 0 ≡ allowed_to pins
unfolding left_from allowed_to
all_left pins = refl

pub none_left : (pins : Pins) (r : ℕ) → registers ≤ r → left_from pins r ≡ []
unfolding left_from
none_left pins r past = let none : registers - r ≡ 0 = omega (arith, past) in ap (λ n. filter (is_allowed pins None) (range_with_len r n)) none

-- one that is counted
pub count_more : (pins : Pins) (r count : ℕ) → r < registers → is_among pins.avoid r ≡ false → count + length (left_from pins r) ≡ length (allowed_to pins) → count + 1 + length (left_from pins (r + 1)) ≡ length (allowed_to pins)
count_more pins r count small apart so_far = let next = ap length (taken pins r small apart) in omega (arith, next, so_far)

pub count_on : (pins : Pins) (r count : ℕ) → r < registers → is_among pins.avoid r ≡ true → count + length (left_from pins r) ≡ length (allowed_to pins) → count + length (left_from pins (r + 1)) ≡ length (allowed_to pins)
count_on pins r count small avoided so_far = let next = ap length (passed_over pins r small avoided) in omega (arith, next, so_far)

pub few_allowed : (pins : Pins) → length (allowed_to pins) ≤ registers
few_allowed pins = let few = few_from pins 0 in let all = ap length (all_left pins) in omega (arith, few, all)

-- among those that are left it is the one of the number that is left
abbrev pub IsLeft : Pins → ℕ → ℕ → ℕ → Type 0
IsLeft pins r left number = (get_or (left_from pins r) left 0 ≡ get_or (allowed_to pins) number 0) × (left < length (left_from pins r))

pub found_there : (pins : Pins) (r left number : ℕ) → r < registers → is_among pins.avoid r ≡ false → left ≡ 0 → IsLeft pins r left number → r ≡ get_or (allowed_to pins) number 0
found_there pins r left number small apart first is =
    ap (λ xs. get_or xs 0 0) (sym (taken pins r small apart)) ∙ ap (λ n. get_or (left_from pins r) n 0) (sym first) ∙ is.0

pub left_more : (pins : Pins) (r left number : ℕ) → r < registers → is_among pins.avoid r ≡ false → (left ≡ 0 → ⊥) → IsLeft pins r left number → IsLeft pins (r + 1) (left - 1) number
left_more pins r left number small apart later is = of left later (subst (λ (xs : List ℕ). (get_or xs left 0 ≡ get_or (allowed_to pins) number 0) × (left < length xs)) (taken pins r small apart) is)
  where
    of : (n : ℕ) → (n ≡ 0 → ⊥) → (get_or (r ∷ left_from pins (r + 1)) n 0 ≡ get_or (allowed_to pins) number 0) × (n < length (r ∷ left_from pins (r + 1))) → IsLeft pins (r + 1) (n - 1) number
    of zero later is = absurd (later refl)
    of (suc n) later is = let less : suc n - 1 ≡ n = omega arith in (ap (λ m. get_or (left_from pins (r + 1)) m 0) less ∙ is.0, omega (arith, is.1))

pub left_on : (pins : Pins) (r left number : ℕ) → r < registers → is_among pins.avoid r ≡ true → IsLeft pins r left number → IsLeft pins (r + 1) left number
left_on pins r left number small avoided is = subst (λ (xs : List ℕ). (get_or xs left 0 ≡ get_or (allowed_to pins) number 0) × (left < length xs)) (passed_over pins r small avoided) is

-- ---- a pinned register

none_at : (f : ℕ → Bool) (a n pin : ℕ) → (f pin ≡ false) ⊎ (pin < a) ⊎ (a + n ≤ pin) → filter (λ r. r == pin) (filter f (range_with_len a n)) ≡ []
none_at f a zero pin out = refl
none_at f a (suc n) pin out = of (f a) refl (none_at f (a + 1) n pin (further out))
  where
    further : (f pin ≡ false) ⊎ (pin < a) ⊎ (a + suc n ≤ pin) → (f pin ≡ false) ⊎ (pin < a + 1) ⊎ (a + 1 + n ≤ pin)
    further (inl lacks) = inl lacks
    further (inr (inl low)) = inr (inl (omega (arith, low)))
    further (inr (inr high)) = inr (inr (omega (arith, high)))

    apart : f a ≡ true → (f pin ≡ false) ⊎ (pin < a) ⊎ (a + suc n ≤ pin) → (a ≡ pin → ⊥)
    apart has (inl lacks) same = absurd (let no : true ≡ false = sym has ∙ ap f same ∙ lacks in cc)
    apart has (inr (inl low)) same = omega (arith, low, same)
    apart has (inr (inr high)) same = omega (arith, high, same)

    of : (t : Bool) → t ≡ f a → filter (λ r. r == pin) (filter f (range_with_len (a + 1) n)) ≡ [] → filter (λ r. r == pin) (cond t (a ∷ filter f (range_with_len (a + 1) n)) (filter f (range_with_len (a + 1) n))) ≡ []
    of true is rest = ap (λ t. cond t (a ∷ filter (λ r. r == pin) (filter f (range_with_len (a + 1) n))) (filter (λ r. r == pin) (filter f (range_with_len (a + 1) n)))) (ne_eqb a pin (apart (sym is) out)) ∙ rest
    of false is rest = rest

one_at : (f : ℕ → Bool) (a n pin : ℕ) → f pin ≡ true → a ≤ pin → pin < a + n → filter (λ r. r == pin) (filter f (range_with_len a n)) ≡ pin ∷ []
one_at f a zero pin has low high = absurd (omega (arith, low, high))
one_at f a (suc n) pin has low high = of (a == pin) refl (one_at f (a + 1) n pin has)
  where
    rest : List ℕ
    rest = filter f (range_with_len (a + 1) n)

    of : (t : Bool) → (a == pin) ≡ t → (a + 1 ≤ pin → pin < a + 1 + n → filter (λ r. r == pin) rest ≡ pin ∷ []) → filter (λ r. r == pin) (cond (f a) (a ∷ rest) rest) ≡ pin ∷ []
    of true is more =
        let same : a ≡ pin = eqb-true a pin is in
        let none = none_at f (a + 1) n pin (inr (inl (omega (arith, same)))) in
        ap (λ t. filter (λ r. r == pin) (cond t (a ∷ rest) rest)) (ap f same ∙ has) ∙ ap (λ t. cond t (a ∷ filter (λ r. r == pin) rest) (filter (λ r. r == pin) rest)) is ∙ (λ i. same i ∷ none i)
    of false is more =
        let above : a + 1 ≤ pin = grind (arith, nat_tests, is, low) in
        passed (f a) ∙ more above (omega (arith, high))
      where
        passed : (t : Bool) → filter (λ r. r == pin) (cond t (a ∷ rest) rest) ≡ filter (λ r. r == pin) rest
        passed true = ap (λ t. cond t (a ∷ filter (λ r. r == pin) rest) (filter (λ r. r == pin) rest)) is
        passed false = refl

-- one that may be given is the one member
pub pinned_there : (pins : Pins) (pin : ℕ) → pin < registers → is_among pins.avoid pin ≡ false → filter (λ r. r == pin) (allowed_to pins) ≡ pin ∷ []
unfolding allowed_to
pinned_there pins pin small apart = one_at (is_allowed pins None) 0 registers pin (ap (λ t. not t && true) apart) (omega arith) small

-- and one that may not be leaves none
pub pinned_avoided : (pins : Pins) (pin : ℕ) → is_among pins.avoid pin ≡ true → filter (λ r. r == pin) (allowed_to pins) ≡ []
unfolding allowed_to
pinned_avoided pins pin avoided = none_at (is_allowed pins None) 0 registers pin (inl (ap (λ t. not t && true) avoided))

pub pinned_past : (pins : Pins) (pin : ℕ) → registers ≤ pin → filter (λ r. r == pin) (allowed_to pins) ≡ []
unfolding allowed_to
pinned_past pins pin past = none_at (is_allowed pins None) 0 registers pin (inr (inr past))
