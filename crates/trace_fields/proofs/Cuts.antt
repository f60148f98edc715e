-- A text that is cut at the first place of a byte.
use Rattle.std.proofs.Common.{◌≡◌, ℕ, ◌+◌, ◌≤◌, List, [], ◌∷◌, length, take, drop, Bool, refl, sym, ap, ◌∙◌, arith, inl, inr, Some, None}
use Rattle.std.specs.Prelude.{position, ◌-◌}
use Rattle.std.proofs.lemmas.Option.{none-some, same_Some}
use Rattle.std.proofs.lemmas.List.{length-drop}
use Rattle.std.proofs.Math.Seq.{take-length}
use Rattle.std.specs.List.{slice_split, position_or_len, onto_first}
use Rattle.std.proofs.lemmas.Bool.{cases_Bool, cases_lt, lt-ltb, le-ltb}
use Rattle.std.proofs.lemmas.List.Splits.{slice_split_first, slice_split-cons_no}

-- where no byte passes, the text is the one part
whole : (p : ℕ → Bool) (bytes : List ℕ) → length bytes ≤ position_or_len p bytes → slice_split p bytes ≡ bytes ∷ []
whole p [] past = refl
whole p (b ∷ bytes) past = elim (cases_Bool (p b)) [
  | inl passes ↦ absurd (omega (arith, simp passes at past))
  | inr fails ↦ slice_split-cons_no p b bytes fails ∙ ap (onto_first b) (whole p bytes (omega (arith, simp fails at past)))
]

pub cut_none : (p : ℕ → Bool) (bytes : List ℕ) → position p bytes ≡ None → slice_split p bytes ≡ bytes ∷ []
cut_none p bytes none = elim (cases_lt (position_or_len p bytes) (length bytes)) [
  | inl within ↦ absurd (none-some (position_or_len p bytes) (sym (rw (lt-ltb _ _ within) at none)))
  | inr past ↦ whole p bytes past
]

pub cut_some : (p : ℕ → Bool) (bytes : List ℕ) (i : ℕ) → position p bytes ≡ Some i
    → slice_split p bytes ≡ take i bytes ∷ slice_split p (drop (i + 1) bytes)
cut_some p bytes i found = elim (cases_lt (position_or_len p bytes) (length bytes)) [
  | inl within ↦
      let same : position_or_len p bytes ≡ i = same_Some _ _ (rw (lt-ltb _ _ within) at found) in
      slice_split_first p bytes 0 within ∙ ap (λ k. take k bytes ∷ slice_split p (drop (k + 1) bytes)) same
  | inr past ↦ absurd (none-some i (rw (le-ltb _ _ past) at found))
]

take_whole : (l : List ℕ) (n : ℕ) → n ≡ length l → take n l ≡ l
take_whole l n same = ap (λ k. take k l) same ∙ take-length l

-- the same, with what stands behind as a slice up to the end
pub cut_slice : (p : ℕ → Bool) (bytes : List ℕ) (i : ℕ) → position p bytes ≡ Some i
    → slice_split p bytes ≡ take i bytes ∷ slice_split p (take (length bytes - (i + 1)) (drop (i + 1) bytes))
cut_slice p bytes i found = rw (take_whole (drop (i + 1) bytes) (length bytes - (i + 1)) (sym (length-drop (i + 1) bytes))) (cut_some p bytes i found)
