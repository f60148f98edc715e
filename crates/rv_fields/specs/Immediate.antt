-- The immediates of instruction words: numbers whose bits stand scattered in the word.
use Rattle.std.specs.Prelude.{ℕ, suc, ◌+◌, ◌-◌, ◌*◌, ◌/◌, ◌%◌, ◌^◌, ℤ, pos, negsuc, List, [], ◌∷◌, nat_le, nat_lt, Bool, ◌&&◌, ◌==◌, if◌then◌else◌}
use Rattle.rv_fields.specs.declared.pieces.Piece.{Piece}

-- the number in some neighbouring bits of a word, the lowest of them at place low
abbrev pub bits_of : ℕ → ℕ → ℕ → ℕ
bits_of word low width = word / 2 ^ low % 2 ^ width

-- a number below 2 * half, read in two's complement
abbrev pub signed_of : ℕ → ℕ → ℤ
signed_of half n = if nat_lt n half then pos n else negsuc (2 * half - suc n)

-- what is left of a whole number modulo size
abbrev pub modulo : ℕ → ℤ → ℕ
modulo size (pos n) = n % size
modulo size (negsuc n) = size - suc (n % size)

-- a whole number modulo 2^64, as registers and addresses keep it
abbrev pub wrapped : ℤ → ℕ
wrapped z = modulo (2 ^ 64) z

-- the lowest of two halves is -half, and the greatest is half - 1
abbrev pub is_signed : ℕ → ℤ → Bool
is_signed half (pos n) = nat_lt n half
is_signed half (negsuc n) = nat_lt n half

-- ---- the bits of an immediate

-- neighbouring bits of an immediate: their place in the word, how many they are, and which of the
-- immediate's bits the lowest of them is
abbrev piece : ℕ → ℕ → ℕ → Piece
piece place width bit = record { place = place; width = width; bit = bit }

-- form I: bits 31 to 20 are the immediate's bits 11 to 0
abbrev pub pieces_i : List Piece
pieces_i = piece 20 12 0 ∷ []

-- form S: bits 31 to 25 and 11 to 7 are the immediate's bits 11 to 5 and 4 to 0
abbrev pub pieces_s : List Piece
pieces_s = piece 25 7 5 ∷ piece 7 5 0 ∷ []

-- form B: bits 31, 30 to 25, 11 to 8 and 7 are the immediate's bits 12, 10 to 5, 4 to 1 and 11
abbrev pub pieces_b : List Piece
pieces_b = piece 31 1 12 ∷ piece 25 6 5 ∷ piece 8 4 1 ∷ piece 7 1 11 ∷ []

-- form U: bits 31 to 12 are the immediate's bits 31 to 12
abbrev pub pieces_u : List Piece
pieces_u = piece 12 20 12 ∷ []

-- form J: bits 31, 30 to 21, 20 and 19 to 12 are the immediate's bits 20, 10 to 1, 11 and 19 to 12
abbrev pub pieces_j : List Piece
pieces_j = piece 31 1 20 ∷ piece 21 10 1 ∷ piece 20 1 11 ∷ piece 12 8 12 ∷ []

-- the number whose bits a word has in these pieces
abbrev pub gathered : List Piece → ℕ → ℕ
gathered [] word = 0
gathered (p ∷ pieces) word = bits_of word p.place p.width * 2 ^ p.bit + gathered pieces word

-- the word that has a number's bits in these pieces, and no other bit
abbrev pub scattered : List Piece → ℕ → ℕ
scattered [] n = 0
scattered (p ∷ pieces) n = bits_of n p.bit p.width * 2 ^ p.place + scattered pieces n

-- the word with a number's bits in these pieces in place of its own
abbrev pub with_pieces : List Piece → ℕ → ℕ → ℕ
with_pieces pieces word n = word - scattered pieces (gathered pieces word) + scattered pieces n

-- a piece of a word of 32 bits
abbrev pub is_in_word : Piece → Bool
is_in_word p = nat_lt p.place 32 && nat_lt p.width 32 && nat_le (p.place + p.width) 32 && nat_lt p.bit 32

-- ---- reading an immediate: its bits that the word lacks are 0

abbrev pub imm_i : ℕ → ℤ
imm_i word = signed_of (2 ^ 11) (gathered pieces_i word)

abbrev pub imm_s : ℕ → ℤ
imm_s word = signed_of (2 ^ 11) (gathered pieces_s word)

abbrev pub imm_b : ℕ → ℤ
imm_b word = signed_of (2 ^ 12) (gathered pieces_b word)

abbrev pub imm_u : ℕ → ℤ
imm_u word = signed_of (2 ^ 31) (gathered pieces_u word)

abbrev pub imm_j : ℕ → ℤ
imm_j word = signed_of (2 ^ 20) (gathered pieces_j word)

-- ---- what a form can hold

-- forms I and S: -2048 to 2047
abbrev pub fits_i : ℤ → Bool
fits_i z = is_signed (2 ^ 11) z

-- form B: the even numbers from -4096 to 4094
abbrev pub fits_b : ℤ → Bool
fits_b z = is_signed (2 ^ 12) z && (modulo 2 z == 0)

-- form U: the multiples of 4096 from -2^31 to 2^31 - 4096
abbrev pub fits_u : ℤ → Bool
fits_u z = is_signed (2 ^ 31) z && (modulo (2 ^ 12) z == 0)

-- form J: the even numbers from -2^20 to 2^20 - 2
abbrev pub fits_j : ℤ → Bool
fits_j z = is_signed (2 ^ 20) z && (modulo 2 z == 0)

-- ---- the word with another immediate, and its other bits as they were

abbrev pub put_imm_i : ℕ → ℤ → ℕ
put_imm_i word z = with_pieces pieces_i word (modulo (2 ^ 12) z)

abbrev pub put_imm_s : ℕ → ℤ → ℕ
put_imm_s word z = with_pieces pieces_s word (modulo (2 ^ 12) z)

abbrev pub put_imm_b : ℕ → ℤ → ℕ
put_imm_b word z = with_pieces pieces_b word (modulo (2 ^ 13) z)

abbrev pub put_imm_u : ℕ → ℤ → ℕ
put_imm_u word z = with_pieces pieces_u word (modulo (2 ^ 32) z)

abbrev pub put_imm_j : ℕ → ℤ → ℕ
put_imm_j word z = with_pieces pieces_j word (modulo (2 ^ 21) z)
