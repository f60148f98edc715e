-- What the last segment of a map that begins before an address tells of those before it.
use Rattle.std.proofs.Common.{◌≡◌, ℕ, ◌<◌, ◌≤◌, false, List, [], ◌∷◌, ◌++◌, inl, inr, Option, Some, None, refl, sym, ap, subst, ◌∙◌, arith}
use Rattle.std.specs.Prelude.{IsSome}
use Rattle.std.specs.declared.cmp.Ordering.TheVariants.{Less}
use Rattle.std.specs.declared.ops.Bound.TheVariants.{Excluded, Unbounded}
use Rattle.std.specs.Ordering.{nat_cmp, is_lt}
use Rattle.std.specs.BTreeMap.{BTreeMap, get}
use Rattle.std.specs.BTreeMap.Range.{IsRangeOf}
use Rattle.std.proofs.lemmas.Bool.{cases_lt}
use Rattle.std.proofs.lemmas.Bool.Decides.{nat_tests}
use Rattle.elf_file.specs.Taken.{TakesSpan, IsSpread, IsTaken}

compared_below : (a b : ℕ) → nat_cmp a b ≡ Less → a < b
compared_below a b e = grind (arith, nat_tests)

below_compared : (a b : ℕ) → a < b → nat_cmp a b ≡ Less
below_compared a b lt = grind (arith, nat_tests)

compared_not_below : (a b : ℕ) → is_lt (nat_cmp a b) ≡ false → b ≤ a
compared_not_below a b e =
    elim (cases_lt a b) [
      | inl lt ↦ let no : is_lt Less ≡ false = ap is_lt (sym (below_compared a b lt)) ∙ e in cc
      | inr le ↦ le
    ]

some_entry : (ends : BTreeMap ℕ ℕ) (at end : ℕ) → TakesSpan ends at end → IsSome (get nat_cmp ends at)
some_entry ends at end entry = subst (λ (o : Option ℕ). IsSome o) (sym entry) refl

pub taken_by_last : (ends : BTreeMap ℕ ℕ) (at end : ℕ) (r t : List (ℕ × ℕ)) (first last : ℕ) → IsRangeOf nat_cmp Unbounded (Excluded end) ends r
    → r ≡ t ++ (first, last) ∷ [] → at < last → IsTaken ends at end
taken_by_last ends at end r t first last range is behind =
    let here = range.3 (first, last) t is in
    record { first = first; last = last; entry = here.1; before = compared_below first end here.0.1; behind = behind }

pub free_by_last : (ends : BTreeMap ℕ ℕ) (at end : ℕ) (r t : List (ℕ × ℕ)) (first last : ℕ) → IsSpread ends → IsRangeOf nat_cmp Unbounded (Excluded end) ends r
    → r ≡ t ++ (first, last) ∷ [] → last ≤ at → IsTaken ends at end → ⊥
free_by_last ends at end r t first last spread range is before taken =
    let here = range.3 (first, last) t is in
    let greatest = range.4 (first, last) t is taken.first (tt, below_compared taken.first end taken.before) (some_entry ends taken.first taken.last taken.entry) in
    let some : first < last = spread.some first last here.1 in
    elim (cases_lt taken.first first) [
      | inl lt ↦ let earlier : taken.last ≤ first = spread.apart taken.first taken.last first last taken.entry here.1 lt in omega (arith, taken.behind)
      | inr le ↦
          let same : taken.first ≡ first = omega (arith, compared_not_below first taken.first greatest) in
          let ends_there : Some taken.last ≡ Some last = sym taken.entry ∙ ap (get nat_cmp ends) same ∙ here.1 in
          let one : taken.last ≡ last = cc in
          omega (arith, taken.behind)
    ]

pub free_by_none : (ends : BTreeMap ℕ ℕ) (at end : ℕ) (r : List (ℕ × ℕ)) → IsRangeOf nat_cmp Unbounded (Excluded end) ends r → r ≡ [] → IsTaken ends at end → ⊥
free_by_none ends at end r range is taken =
    let nothing : get nat_cmp ends taken.first ≡ None = range.5 is taken.first (tt, below_compared taken.first end taken.before) in
    let no : Some taken.last ≡ None = sym taken.entry ∙ nothing in
    cc
