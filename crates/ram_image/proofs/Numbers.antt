-- Bytes, and the numbers that they spell.
use Rattle.std.proofs.Common.{◌≡◌, ℕ, zero, suc, ◌+◌, ◌-◌, ◌*◌, ◌<◌, ◌≤◌, List, ◌∷◌, [], ◌++◌, length, take, drop, get_or, true, false, Some, None, ◌^◌, lit<, refl, sym, ◌∙◌, ap, arith, inl, inr, replicate, min}
use Rattle.std.specs.Int.{w64, from_le_bytes}
use Rattle.std.proofs.lemmas.Bool.{cases_lt}
use Rattle.std.proofs.lemmas.List.{places, same_lists, get_or-replicate, get_or-take, get_or-drop, get_or_past, length-take, length-drop, length-replicate}
use borrow.Rule.Slice.PartMut.{put_mid}
use Rattle.rv_fields.specs.Memory.{in_ram, number_of, told, told_bytes, whole}
use Rattle.rv_fields.proofs.Ranges.{joined, one_more}
use Rattle.ram_image.specs.Ram.{bytes_from}

-- a whole memory tells each byte
told_whole : (memory : ℕ → ℕ) (at size : ℕ) → told_bytes (whole memory) at size ≡ Some (bytes_from memory at size)
told_whole memory at zero = refl
told_whole memory at (suc size) = rw (told_whole memory (at + 1) size) refl

pub told_inside : (memory : ℕ → ℕ) (at size number : ℕ) → in_ram at size ≡ true → number ≡ number_of (bytes_from memory at size)
    → told (whole memory) at size ≡ Some (Some number)
told_inside memory at size number inside e = rw (inside, told_whole memory at size, e) refl

pub told_outside : (memory : ℕ → ℕ) (at size : ℕ) → in_ram at size ≡ false → told (whole memory) at size ≡ Some None
told_outside memory at size outside = rw outside refl

-- the bytes of a memory are a list that has them
pub bytes_are : (memory : ℕ → ℕ) (at size : ℕ) (bytes : List ℕ) → length bytes ≡ size
    → ((k : ℕ) → k < size → get_or bytes k 0 ≡ memory (at + k)) → bytes_from memory at size ≡ bytes
bytes_are memory at zero [] whole same = refl
bytes_are memory at zero (b ∷ bs) whole same = absurd cc
bytes_are memory at (suc size) [] whole same = absurd cc
bytes_are memory at (suc size) (b ∷ bs) whole same =
    let first : b ≡ memory at = same 0 (omega arith) ∙ ap memory (omega arith) in
    let rest : bytes_from memory (at + 1) size ≡ bs =
    bytes_are memory (at + 1) size bs (omega arith) (λ k below. same (suc k) (omega arith) ∙ ap memory (omega arith)) in
    rw (rest, first) refl

-- zeros spell 0, also behind other bytes
pub number_of-zeros : (n : ℕ) → number_of (replicate n 0) ≡ 0
number_of-zeros zero = refl
number_of-zeros (suc n) = rw (number_of-zeros n) refl

pub number_of-padded : (bytes : List ℕ) (n : ℕ) → number_of (bytes ++ replicate n 0) ≡ number_of bytes
number_of-padded [] n = number_of-zeros n
number_of-padded (b ∷ bs) n = ap (λ m. b + 256 * m) (number_of-padded bs n)

-- the number of eight bytes, as a register takes it
pub number_of_8 : (bytes : List ℕ) → length bytes ≡ 8 → from_le_bytes w64 bytes ≡ number_of bytes
number_of_8 (a ∷ b ∷ c ∷ d ∷ e ∷ f ∷ g ∷ h ∷ []) eight = omega arith
number_of_8 other eight = absurd (omega arith)

-- bytes put before zeros
pub number_of_put : (bytes : List ℕ) → length bytes ≤ 8 → from_le_bytes w64 (put_mid 0 (length bytes) (replicate 8 0) bytes) ≡ number_of bytes
number_of_put bytes short =
    let padded : put_mid 0 (length bytes) (replicate 8 0) bytes ≡ bytes ++ replicate (8 - length bytes) 0 =
    same_lists _ _ (grind (arith, places)) (λ k d below. grind (arith, places)) in
    let eight : length (put_mid 0 (length bytes) (replicate 8 0) bytes) ≡ 8 = grind (arith, places) in
    number_of_8 (put_mid 0 (length bytes) (replicate 8 0) bytes) eight ∙ ap number_of padded ∙ number_of-padded bytes (8 - length bytes)

-- the bytes that stand one after another in a page
pub part_of_page : (memory : ℕ → ℕ) (at size first past : ℕ) (page : List ℕ) → past ≡ first + size → past ≤ length page
    → ((k : ℕ) → k < size → memory (at + k) ≡ get_or page (first + k) 0) → bytes_from memory at size ≡ take (past - first) (drop first page)
part_of_page memory at size first past page past_is within same =
    bytes_are memory at size (take (past - first) (drop first page)) (grind (arith, places)) (λ k below.
    let there : get_or (take (past - first) (drop first page)) k 0 ≡ get_or page (first + k) 0 = grind (arith, places) in
    there ∙ sym (same k below))

-- where there is no page, the number is 0
pub number_of_nothing : (memory : ℕ → ℕ) (at size : ℕ) → ((k : ℕ) → k < size → memory (at + k) ≡ 0) → 0 ≡ number_of (bytes_from memory at size)
number_of_nothing memory at size none =
    sym (ap number_of (bytes_are memory at size (replicate size 0) (length-replicate size 0) (λ k below. get_or-replicate size k 0 0 below ∙ sym (none k below)))
    ∙ number_of-zeros size)

-- a part of some bytes, as far as there are any
pub part_of : (bytes : List ℕ) (from to k : ℕ) → from ≤ to → k < to - from
    → get_or (take (min to (length bytes) - min from (length bytes)) (drop (min from (length bytes)) bytes)) k 0 ≡ get_or bytes (from + k) 0
part_of bytes from to k ordered within =
    let part = take (min to (length bytes) - min from (length bytes)) (drop (min from (length bytes)) bytes) in
    elim (cases_lt (from + k) (length bytes)) [
      | inl inside ↦
          let begin : min from (length bytes) ≡ from = omega arith in
          let count : k < min to (length bytes) - min from (length bytes) = omega arith in
          get_or-take (min to (length bytes) - min from (length bytes)) (drop (min from (length bytes)) bytes) k 0 count
          ∙ get_or-drop (min from (length bytes)) bytes k 0 ∙ ap (λ n. get_or bytes (n + k) 0) begin
      | inr past ↦
          let short : length part ≤ k = omega (arith, length-take (min to (length bytes) - min from (length bytes)) (drop (min from (length bytes)) bytes), length-drop (min from (length bytes)) bytes) in
          get_or_past part k 0 short ∙ sym (get_or_past bytes (from + k) 0 past)
    ]

-- a number is as small as its bytes are few
pub number_small : (bytes : List ℕ) → ((k : ℕ) → k < length bytes → get_or bytes k 0 < 2 ^ 8) → number_of bytes < 2 ^ (8 * length bytes)
number_small [] small = lit< tt
number_small (b ∷ bs) small =
    joined b (number_of bs) (2 ^ (8 * length bs)) (2 ^ (8 * suc (length bs))) (small 0 (omega arith))
    (number_small bs (λ k below. small (suc k) (omega arith))) (one_more (length bs))
