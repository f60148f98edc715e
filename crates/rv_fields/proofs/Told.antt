-- Memory that has the bytes of a number tells the number.
use Rattle.std.proofs.Common.{ℕ, suc, ◌+◌, ◌^◌, ◌<◌, ◌≡◌, true, cond, List, [], ◌∷◌, length, get_or, Some, None, option_map, ap, ◌∙◌, arith, refl}
use Rattle.std.specs.Int.{w32, w64, to_le_bytes}
use Rattle.rv_fields.specs.Memory.{Bytes, told, told_bytes, number_of, in_ram}

-- the byte at each place of a list is told
abbrev Tells : Bytes → ℕ → List ℕ → Type 0
Tells byte at bs = (j : ℕ) → j < length bs → byte (at + j) ≡ Some (get_or bs j 0)

all_told : (byte : Bytes) (at : ℕ) (bs : List ℕ) → Tells byte at bs → told_bytes byte at (length bs) ≡ Some bs
all_told byte at [] tells = refl
all_told byte at (b ∷ bs) tells =
    let here : byte at ≡ Some b = ap byte (omega arith) ∙ tells 0 (omega arith) in
    let behind : Tells byte (at + 1) bs = λ j below. (let place : at + 1 + j ≡ at + suc j = omega arith in ap byte place ∙ tells (suc j) (omega arith)) in
    rw here (rw (all_told byte (at + 1) bs behind) refl)

-- a number by its bytes
told_number : (byte : Bytes) (at value : ℕ) (bs : List ℕ) → in_ram at (length bs) ≡ true → number_of bs ≡ value → Tells byte at bs
    → told byte at (length bs) ≡ Some (Some value)
told_number byte at value bs in_it is tells =
    ap (λ b. cond b (option_map (λ bs. Some (number_of bs)) (told_bytes byte at (length bs))) (Some None)) in_it
    ∙ ap (option_map (λ bs. Some (number_of bs))) (all_told byte at bs tells)
    ∙ ap (λ n. Some (Some n)) is

pub told_word : (byte : Bytes) (at word : ℕ) → in_ram at 4 ≡ true → word < 2 ^ 32
    → ((j : ℕ) → j < 4 → byte (at + j) ≡ Some (get_or (to_le_bytes w32 word) j 0))
    → told byte at 4 ≡ Some (Some word)
told_word byte at word in_it small bytes =
    let sum : number_of (to_le_bytes w32 word) ≡ word = omega arith in
    told_number byte at word (to_le_bytes w32 word) in_it sum bytes

pub told_value : (byte : Bytes) (at value : ℕ) → in_ram at 8 ≡ true → value < 2 ^ 64
    → ((j : ℕ) → j < 8 → byte (at + j) ≡ Some (get_or (to_le_bytes w64 value) j 0))
    → told byte at 8 ≡ Some (Some value)
told_value byte at value in_it small bytes =
    let sum : number_of (to_le_bytes w64 value) ≡ value = omega arith in
    told_number byte at value (to_le_bytes w64 value) in_it sum bytes
