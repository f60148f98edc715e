-- The entries of a trail, one more after another.
use Rattle.std.proofs.Common.{ℕ, zero, suc, ◌+◌, ◌<◌, ◌≡◌, true, cond, List, [], ◌∷◌, ◌++◌, get_or, length, Some, None, refl, sym, ap, ◌∙◌, arith}
use Rattle.std.specs.Prelude.{nat_lt, slice_index, take}
use Rattle.std.specs.Option.{unwrap_or}
use Rattle.std.proofs.Math.Seq.{take-suc}
use Rattle.std.proofs.lemmas.Bool.Decides.{nat_tests}
use Rattle.std.proofs.lemmas.List.{length-take-le}
use Rattle.rv_fields.specs.Effect.{Entry}
use Rattle.sv_walk.specs.Views.{entries_of}

pub entries_long : (at pte : List ℕ) → length at ≡ length pte → length (entries_of at pte) ≡ length at
entries_long [] pte same = refl
entries_long (a ∷ at) [] same = absurd (omega (arith, same))
entries_long (a ∷ at) (p ∷ pte) same = ap suc (entries_long at pte (omega (arith, same)))

entry_in : (at pte : List ℕ) (k : ℕ) (d : Entry) → k < length at → length at ≡ length pte → get_or (entries_of at pte) k d ≡ record { at = slice_index at k; pte = slice_index pte k }
entry_in [] pte k d below same = absurd (omega (arith, below))
entry_in (a ∷ at) [] k d below same = absurd (omega (arith, same))
entry_in (a ∷ at) (p ∷ pte) zero d below same = refl
entry_in (a ∷ at) (p ∷ pte) (suc k) d below same = entry_in at pte k d (omega (arith, below)) (omega (arith, same))

-- so many entries, and one more
pub one_more : (at pte : List ℕ) (k : ℕ) (shown : List Entry) → k < length at → length at ≡ 4 → length pte ≡ 4 → shown ≡ take k (entries_of at pte)
    → unwrap_or (cond (nat_lt (length shown) 4) (Some (shown ++ record { at = slice_index at k; pte = slice_index pte k } ∷ [])) None) shown
    ≡ take (k + 1) (entries_of at pte)
one_more at pte k shown below four also is =
    let same : length at ≡ length pte = omega (arith, four, also) in
    let long : length (entries_of at pte) ≡ length at = entries_long at pte same in
    let e : Entry = record { at = slice_index at k; pte = slice_index pte k } in
    let count : length shown ≡ k = ap length is ∙ length-take-le k (entries_of at pte) (omega (arith, long, below)) in
    let fits : nat_lt (length shown) 4 ≡ true = grind (arith, nat_tests, count, below, four) in
    let next : suc k ≡ k + 1 = omega arith in
    ap (λ b. unwrap_or (cond b (Some (shown ++ e ∷ [])) None) shown) fits
    ∙ ap (λ (es : List Entry). es ++ e ∷ []) is
    ∙ ap (λ (x : Entry). take k (entries_of at pte) ++ x ∷ []) (sym (entry_in at pte k e below same))
    ∙ sym (take-suc (entries_of at pte) k e (omega (arith, long, below)))
    ∙ ap (λ n. take n (entries_of at pte)) next
