-- The runs of an order, as a loop over it counts and writes them.
use Rattle.std.proofs.Common.{◌≡◌, ◌≢◌, ℕ, zero, suc, ◌+◌, ◌<◌, ◌≤◌, List, [], ◌∷◌, ◌++◌, length, get_or, take, drop, replicate, refl, sym, ap, ◌∙◌, arith, add-one, append-nil, inl, inr, drop-cons}
use Rattle.std.proofs.Math.ListN.{drop_of_length-le}
use Rattle.std.proofs.lemmas.Bool.{ne_eqb, eq-eqb, cases_eq}
use Rattle.std.proofs.lemmas.List.{take-append-le, length-take}
use Rattle.std.specs.List.{flat_map}
use Rattle.trace_text.specs.Text.{Turns, with_turn, turns_of, turns_text}

-- so many steps of a hart
abbrev pub turns : ℕ → ℕ → Turns
turns hart count = record { hart = hart; count = count }

-- the text of so many steps of a hart, which are counted, and of the order that is left
abbrev pub text_left : ℕ → ℕ → List ℕ → List ℕ
text_left hart count order = flat_map turns_text (turns_of (replicate count hart ++ order))

-- one step more in front of turns of its hart
one_more : (hart count : ℕ) (ts : List Turns) → with_turn hart (turns hart count ∷ ts) ≡ turns hart (count + 1) ∷ ts
one_more hart count ts = rw (eq-eqb hart hart refl)

-- one step in front of turns of another hart
another : (hart next count : ℕ) (ts : List Turns) → hart ≢ next → with_turn hart (turns next count ∷ ts) ≡ turns hart 1 ∷ turns next count ∷ ts
another hart next count ts other = rw (ne_eqb next hart (λ e. other (sym e)))

-- a run ends where the next hart is another
pub ends_before : (hart next : ℕ) (ts : List Turns) → hart ≢ next → with_turn hart (with_turn next ts) ≡ turns hart 1 ∷ with_turn next ts
ends_before hart next [] other = another hart next 1 [] other
ends_before hart next (t ∷ ts) other = elim (cases_eq t.hart next) [
  | inl same ↦ rw (eq-eqb t.hart next same) (another hart next (t.count + 1) ts other)
  | inr differ ↦ rw (ne_eqb t.hart next differ) (another hart next 1 (t ∷ ts) other)
]

-- a run is as many steps as are counted, where what comes after it adds none
pub run : (hart count : ℕ) (order : List ℕ) → 0 < count → with_turn hart (turns_of order) ≡ turns hart 1 ∷ turns_of order
    → turns_of (replicate count hart ++ order) ≡ turns hart count ∷ turns_of order
run hart zero order some ends = absurd (omega arith)
run hart (suc zero) order some ends = ends
run hart (suc (suc n)) order some ends =
    ap (with_turn hart) (run hart (suc n) order (omega arith) ends) ∙ one_more hart (suc n) (turns_of order) ∙ rw add-one

-- a counted step may as well stand in front of what is left
moved : (hart count : ℕ) (order : List ℕ) → replicate (suc count) hart ++ order ≡ replicate count hart ++ hart ∷ order
moved hart zero order = refl
moved hart (suc n) order = ap (λ (l : List ℕ). hart ∷ l) (moved hart n order)

-- the hart at i goes on
pub goes_on : (hart count i : ℕ) (order : List ℕ) → i < length order → get_or order i 0 ≡ hart
    → text_left hart (count + 1) (drop (i + 1) order) ≡ text_left hart count (drop i order)
goes_on hart count i order within same =
    rw (add-one count, add-one i, drop-cons order i 0, same) (ap (λ (l : List ℕ). flat_map turns_text (turns_of l)) (moved hart count (drop (suc i) order)))

-- another hart is at i
pub changes : (hart count i : ℕ) (order : List ℕ) → i < length order → 0 < count → get_or order i 0 ≢ hart
    → turns_text (turns hart count) ++ text_left (get_or order i 0) 1 (drop (i + 1) order) ≡ text_left hart count (drop i order)
changes hart count i order within some other =
    let next = get_or order i 0 in
    let rest = drop (suc i) order in
    rw (add-one, drop-cons order i 0, run hart count (next ∷ rest) some (ends_before hart next (turns_of rest) (λ e. other (sym e))))

-- no order is left at i
pub ends : (hart count i : ℕ) (order : List ℕ) → length order ≤ i → 0 < count → turns_text (turns hart count) ≡ text_left hart count (drop i order)
ends hart count i order past some = rw (drop_of_length-le order past, run hart count [] some refl, append-nil)

-- what stands in front stays there
pub front_stays : (old now more : List ℕ) → take (length old) now ≡ old → take (length old) (now ++ more) ≡ old
front_stays old now more front =
    let fits : length old ≤ length now = omega (arith, simp length-take at (ap length front)) in
    take-append-le (length old) now more fits ∙ front
