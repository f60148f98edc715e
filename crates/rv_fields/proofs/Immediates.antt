-- Reading an immediate and putting one undo each other.
use Rattle.std.proofs.Common.{◌≡◌, ℕ, suc, ◌+◌, ◌-◌, ◌*◌, ◌/◌, ◌%◌, ◌^◌, ◌<◌, ℤ, pos, negsuc, List, true, false, ltb, refl, ap, ◌∙◌, arith, lit<}
use Rattle.std.proofs.lemmas.Int.{to_z-of_z}
use Rattle.std.proofs.lemmas.Bool.{and_parts, eqb-true, ltb-true, le-ltb}
use Rattle.std.proofs.Math.Nat.{mod-eq_of_lt}
use Rattle.std.proofs.lemmas.Bool.Decides.{nat_tests}
use mir.Syntax.{w64}
use mir.Val.{SFits, of_z, to_z}
use Rattle.rv_fields.specs.declared.pieces.Piece.{Piece}
use Rattle.rv_fields.specs.Immediate.{signed_of, modulo, is_signed, bits_of, gathered, scattered, with_pieces, pieces_i, pieces_s, pieces_b, pieces_u, pieces_j, imm_i, imm_s, imm_b, imm_u, imm_j, fits_i, fits_b, fits_u, fits_j, put_imm_i, put_imm_s, put_imm_b, put_imm_u, put_imm_j}

-- ---- two's complement

pub signed-modulo : (half : ℕ) (z : ℤ) → is_signed half z ≡ true → signed_of half (modulo (2 * half) z) ≡ z
signed-modulo half (pos n) h =
    let small : n < half = ltb-true _ _ h in
    let same : n % (2 * half) ≡ n = mod-eq_of_lt (omega arith) in
    rw (same, h) refl
signed-modulo half (negsuc n) h =
    let small : n < half = ltb-true _ _ h in
    let same : n % (2 * half) ≡ n = mod-eq_of_lt (omega arith) in
    let above : ltb (2 * half - suc n) half ≡ false = le-ltb _ _ (omega arith) in
    let back : 2 * half - suc (2 * half - suc n) ≡ n = omega arith in
    rw (same, above, back) refl

pub modulo-signed : (half n : ℕ) → n < 2 * half → modulo (2 * half) (signed_of half n) ≡ n
modulo-signed half n h = grind (arith, nat_tests)

pub modulo-lt : (size : ℕ) (z : ℤ) → 0 < size → modulo size z < size
modulo-lt size (pos n) h = grind arith
modulo-lt size (negsuc n) h = grind arith

-- ---- what is put in the pieces of a form is there, and the pieces are all that changes

pub others_i : (word : ℕ) → word - scattered pieces_i (gathered pieces_i word) ≡ bits_of word 0 20 + word / 2 ^ 32 * 2 ^ 32
others_i word = omega arith

pub others_s : (word : ℕ) → word - scattered pieces_s (gathered pieces_s word) ≡ bits_of word 0 7 + bits_of word 12 13 * 2 ^ 12 + word / 2 ^ 32 * 2 ^ 32
others_s word = omega arith

pub others_b : (word : ℕ) → word - scattered pieces_b (gathered pieces_b word) ≡ bits_of word 0 7 + bits_of word 12 13 * 2 ^ 12 + word / 2 ^ 32 * 2 ^ 32
others_b word = omega arith

pub others_u : (word : ℕ) → word - scattered pieces_u (gathered pieces_u word) ≡ bits_of word 0 12 + word / 2 ^ 32 * 2 ^ 32
others_u word = omega arith

pub others_j : (word : ℕ) → word - scattered pieces_j (gathered pieces_j word) ≡ bits_of word 0 12 + word / 2 ^ 32 * 2 ^ 32
others_j word = omega arith

gathers_i : (low high n : ℕ) → low < 2 ^ 20 → n < 2 ^ 12 → gathered pieces_i (low + high * 2 ^ 32 + scattered pieces_i n) ≡ n
gathers_i low high n h p = omega arith

gathers_s : (low mid high n : ℕ) → low < 2 ^ 7 → mid < 2 ^ 13 → n < 2 ^ 12 → gathered pieces_s (low + mid * 2 ^ 12 + high * 2 ^ 32 + scattered pieces_s n) ≡ n
gathers_s low mid high n h p q = omega arith

gathers_b : (low mid high n : ℕ) → low < 2 ^ 7 → mid < 2 ^ 13 → n < 2 ^ 13 → n % 2 ≡ 0 → gathered pieces_b (low + mid * 2 ^ 12 + high * 2 ^ 32 + scattered pieces_b n) ≡ n
gathers_b low mid high n h p q even = omega arith

gathers_u : (low high n : ℕ) → low < 2 ^ 12 → n < 2 ^ 32 → n % 2 ^ 12 ≡ 0 → gathered pieces_u (low + high * 2 ^ 32 + scattered pieces_u n) ≡ n
gathers_u low high n h p whole = omega arith

gathers_j : (low high n : ℕ) → low < 2 ^ 12 → n < 2 ^ 21 → n % 2 ≡ 0 → gathered pieces_j (low + high * 2 ^ 32 + scattered pieces_j n) ≡ n
gathers_j low high n h p even = omega arith

-- a multiple stays one modulo a larger power of two
even_b : (z : ℤ) → modulo 2 z ≡ 0 → modulo (2 ^ 13) z % 2 ≡ 0
even_b (pos n) h = omega arith
even_b (negsuc n) h = omega arith

even_j : (z : ℤ) → modulo 2 z ≡ 0 → modulo (2 ^ 21) z % 2 ≡ 0
even_j (pos n) h = omega arith
even_j (negsuc n) h = omega arith

whole_u : (z : ℤ) → modulo (2 ^ 12) z ≡ 0 → modulo (2 ^ 32) z % 2 ^ 12 ≡ 0
whole_u (pos n) h = omega arith
whole_u (negsuc n) h = omega arith

pub reads_back_i : (word : ℕ) (z : ℤ) → fits_i z ≡ true → imm_i (put_imm_i word z) ≡ z
reads_back_i word z fit =
    let n = modulo (2 ^ 12) z in
    ap (λ w. imm_i (w + scattered pieces_i n)) (others_i word)
    ∙ ap (signed_of (2 ^ 11)) (gathers_i (bits_of word 0 20) (word / 2 ^ 32) n (omega arith) (modulo-lt _ z (lit< tt)))
    ∙ signed-modulo (2 ^ 11) z fit

pub reads_back_s : (word : ℕ) (z : ℤ) → fits_i z ≡ true → imm_s (put_imm_s word z) ≡ z
reads_back_s word z fit =
    let n = modulo (2 ^ 12) z in
    ap (λ w. imm_s (w + scattered pieces_s n)) (others_s word)
    ∙ ap (signed_of (2 ^ 11)) (gathers_s (bits_of word 0 7) (bits_of word 12 13) (word / 2 ^ 32) n (omega arith) (omega arith) (modulo-lt _ z (lit< tt)))
    ∙ signed-modulo (2 ^ 11) z fit

pub reads_back_b : (word : ℕ) (z : ℤ) → fits_b z ≡ true → imm_b (put_imm_b word z) ≡ z
reads_back_b word z h =
    let fit = and_parts _ _ h in
    let n = modulo (2 ^ 13) z in
    ap (λ w. imm_b (w + scattered pieces_b n)) (others_b word)
    ∙ ap (signed_of (2 ^ 12)) (gathers_b (bits_of word 0 7) (bits_of word 12 13) (word / 2 ^ 32) n (omega arith) (omega arith) (modulo-lt _ z (lit< tt)) (even_b z (eqb-true _ _ fit.1)))
    ∙ signed-modulo (2 ^ 12) z fit.0

pub reads_back_u : (word : ℕ) (z : ℤ) → fits_u z ≡ true → imm_u (put_imm_u word z) ≡ z
reads_back_u word z h =
    let fit = and_parts _ _ h in
    let n = modulo (2 ^ 32) z in
    ap (λ w. imm_u (w + scattered pieces_u n)) (others_u word)
    ∙ ap (signed_of (2 ^ 31)) (gathers_u (bits_of word 0 12) (word / 2 ^ 32) n (omega arith) (modulo-lt _ z (lit< tt)) (whole_u z (eqb-true _ _ fit.1)))
    ∙ signed-modulo (2 ^ 31) z fit.0

pub reads_back_j : (word : ℕ) (z : ℤ) → fits_j z ≡ true → imm_j (put_imm_j word z) ≡ z
reads_back_j word z h =
    let fit = and_parts _ _ h in
    let n = modulo (2 ^ 21) z in
    ap (λ w. imm_j (w + scattered pieces_j n)) (others_j word)
    ∙ ap (signed_of (2 ^ 20)) (gathers_j (bits_of word 0 12) (word / 2 ^ 32) n (omega arith) (modulo-lt _ z (lit< tt)) (even_j z (eqb-true _ _ fit.1)))
    ∙ signed-modulo (2 ^ 20) z fit.0

-- what the calls of a put give together
pub put_is : (pieces : List Piece) (size word n : ℕ) {given : List Piece} {result : ℕ} {z : ℤ} → SFits w64 z → given ≡ pieces → n ≡ modulo size (to_z w64 (of_z w64 z))
    → result ≡ with_pieces given word n → result ≡ with_pieces pieces word (modulo size z)
put_is pieces size word n {given} {result} {z} fits given-is n-is result-is =
    let number : n ≡ modulo size z = n-is ∙ ap (modulo size) (to_z-of_z w64 z fits) in
    result-is ∙ ap (λ ps. with_pieces ps word n) given-is ∙ ap (with_pieces pieces word) number
