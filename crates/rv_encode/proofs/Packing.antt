-- Packing and reading undo each other, form by form.
use Rattle.std.proofs.Common.{◌≡◌, ℕ, ◌+◌, ◌-◌, ◌*◌, ◌/◌, ◌%◌, ◌^◌, ◌<◌, ℤ, pos, negsuc, Bool, true, false, cond, refl, sym, ap, subst, ◌∙◌, arith, lit<, eq-eqb}
use Rattle.std.specs.Prelude.{bit_and}
use Rattle.std.proofs.lemmas.Bool.{and_from, eqb-true, ltb-true, lt-ltb}
use Rattle.std.proofs.lemmas.Bool.Decides.{nat_tests}
use Rattle.std.proofs.lemmas.Nat.{and_block, and_mask, shr_split, mod_below, pow_pos, and_assoc}
use Rattle.std.specs.Int.Bits.{and_self}
use Rattle.std.proofs.Math.Nat.{mod-eq_of_lt}
use Rattle.rv_fields.specs.declared.row_table.Form.{Form}
use Rattle.rv_fields.specs.declared.row_table.Form.TheVariants.{U, J, I, B, S, H6, H5, R, A, L, C, K, V, N}
use Rattle.rv_fields.specs.declared.row_table.Ops.{Ops}
use Rattle.rv_fields.specs.RowTable.{mask_of}
use Rattle.rv_fields.specs.Decode.{fields_of, imm_of, rd_of, rs1_of, rs2_of, aqrl_of, has_rd, has_rs1, has_rs2, has_aqrl}
use Rattle.rv_fields.specs.Immediate.{bits_of, signed_of, is_signed, modulo, gathered, scattered, pieces_i, pieces_s, pieces_b, pieces_u, pieces_j}
use Rattle.rv_fields.proofs.Immediates.{modulo-lt, modulo-signed, others_i, others_s, others_b, others_u, others_j, reads_back_i, reads_back_s, reads_back_b, reads_back_u, reads_back_j}
use Rattle.rv_encode.specs.declared.field.Field.{Field}
use Rattle.rv_encode.specs.declared.field.Field.TheVariants.{Rd, Rs1, Rs2, Imm, AqRl}
use Rattle.rv_encode.specs.Fitting.{fits, fits_field, fits_imm, is_below}
use Rattle.rv_encode.specs.Packing.{packed, without_imm}

-- ---- masks

-- a mask of some neighbouring bits and of others below them
mask_above : (place width low word : ℕ) → low < 2 ^ place
    → bit_and word ((2 ^ width - 1) * 2 ^ place + low) ≡ bits_of word place width * 2 ^ place + bit_and (word % 2 ^ place) low
mask_above place width low word small =
    let high = word / 2 ^ place in
    let below : word % 2 ^ place < 2 ^ place = omega (arith, mod_below word (2 ^ place) (pow_pos place)) in
    ap (λ n. bit_and n ((2 ^ width - 1) * 2 ^ place + low)) (sym (shr_split word place))
    ∙ and_block place high (2 ^ width - 1) (word % 2 ^ place) low below small
    ∙ ap (λ n. n * 2 ^ place + bit_and (word % 2 ^ place) low) (and_mask high width)

opcode : (word : ℕ) → bit_and word 0x7f ≡ word % 2 ^ 7
opcode word = and_mask word 7

with_funct3 : (word : ℕ) → bit_and word 0x707f ≡ word % 2 ^ 7 + bits_of word 12 3 * 2 ^ 12
with_funct3 word = mask_above 12 3 0x7f word (lit< tt) ∙ rw (opcode (word % 2 ^ 12)) (omega arith)

with_funct7 : (word : ℕ) → bit_and word 0xfe00707f ≡ word % 2 ^ 7 + bits_of word 12 3 * 2 ^ 12 + bits_of word 25 7 * 2 ^ 25
with_funct7 word = mask_above 25 7 0x707f word (lit< tt) ∙ rw (with_funct3 (word % 2 ^ 25)) (omega arith)

with_funct6 : (word : ℕ) → bit_and word 0xfc00707f ≡ word % 2 ^ 7 + bits_of word 12 3 * 2 ^ 12 + bits_of word 26 6 * 2 ^ 26
with_funct6 word = mask_above 26 6 0x707f word (lit< tt) ∙ rw (with_funct3 (word % 2 ^ 26)) (omega arith)

with_funct5 : (word : ℕ) → bit_and word 0xf800707f ≡ word % 2 ^ 7 + bits_of word 12 3 * 2 ^ 12 + bits_of word 27 5 * 2 ^ 27
with_funct5 word = mask_above 27 5 0x707f word (lit< tt) ∙ rw (with_funct3 (word % 2 ^ 27)) (omega arith)

with_rs2 : (word : ℕ) → bit_and word 0x1f0707f ≡ word % 2 ^ 7 + bits_of word 12 3 * 2 ^ 12 + bits_of word 20 5 * 2 ^ 20
with_rs2 word = mask_above 20 5 0x707f word (lit< tt) ∙ rw (with_funct3 (word % 2 ^ 20)) (omega arith)

with_rs2_and_funct5 : (word : ℕ) → bit_and word 0xf9f0707f ≡ word % 2 ^ 7 + bits_of word 12 3 * 2 ^ 12 + bits_of word 20 5 * 2 ^ 20 + bits_of word 27 5 * 2 ^ 27
with_rs2_and_funct5 word = mask_above 27 5 0x1f0707f word (lit< tt) ∙ rw (with_rs2 (word % 2 ^ 27)) (omega arith)

with_rd : (word : ℕ) → bit_and word 0xfe007fff ≡ word % 2 ^ 15 + bits_of word 25 7 * 2 ^ 25
with_rd word = mask_above 25 7 0x7fff word (lit< tt) ∙ rw (and_mask (word % 2 ^ 25) 15) (omega arith)

whole : (word : ℕ) → bit_and word 0xffffffff ≡ word % 2 ^ 32
whole word = and_mask word 32

-- ---- fields

ops_eq : (a b : Ops) → a.rd ≡ b.rd → a.rs1 ≡ b.rs1 → a.rs2 ≡ b.rs2 → a.imm ≡ b.imm → a.aqrl ≡ b.aqrl → a ≡ b
ops_eq a b rd rs1 rs2 imm aqrl = λ i. record { rd = rd i; rs1 = rs1 i; rs2 = rs2 i; imm = imm i; aqrl = aqrl i }

-- what a field has room for
abbrev room : Bool → ℕ → ℕ
room has bound = cond has bound 1

in_room : (has : Bool) (bound n : ℕ) → fits_field has bound n ≡ true → n < room has bound
in_room true bound n h = ltb-true _ _ h
in_room false bound n h = let none : n ≡ 0 = eqb-true _ _ h in omega arith

-- what is read of a field fits it
read_in_room : (has : Bool) (bound n : ℕ) → n < bound → fits_field has bound (cond has n 0) ≡ true
read_in_room true bound n h = lt-ltb _ _ h
read_in_room false bound n h = refl

-- ---- what is read of an immediate fits

signed_fits : (half n : ℕ) → n < 2 * half → is_signed half (signed_of half n) ≡ true
signed_fits half n h = grind (arith, nat_tests)

-- a multiple of the unit stays one with its sign
multiple_u : (n : ℕ) → n < 2 ^ 32 → n % 2 ^ 12 ≡ 0 → modulo (2 ^ 12) (signed_of (2 ^ 31) n) ≡ 0
multiple_u n h whole = grind (arith, nat_tests)

multiple_j : (n : ℕ) → n < 2 ^ 21 → n % 2 ≡ 0 → modulo 2 (signed_of (2 ^ 20) n) ≡ 0
multiple_j n h even = grind (arith, nat_tests)

multiple_b : (n : ℕ) → n < 2 ^ 13 → n % 2 ≡ 0 → modulo 2 (signed_of (2 ^ 12) n) ≡ 0
multiple_b n h even = grind (arith, nat_tests)

read_imm_fits : (form : Form) (word : ℕ) → fits_imm form (imm_of form word) ≡ true
read_imm_fits U word = let n = gathered pieces_u word in and_from _ _ (signed_fits (2 ^ 31) n (omega arith)) (eq-eqb _ _ (multiple_u n (omega arith) (omega arith)))
read_imm_fits J word = let n = gathered pieces_j word in and_from _ _ (signed_fits (2 ^ 20) n (omega arith)) (eq-eqb _ _ (multiple_j n (omega arith) (omega arith)))
read_imm_fits I word = signed_fits (2 ^ 11) (gathered pieces_i word) (omega arith)
read_imm_fits B word = let n = gathered pieces_b word in and_from _ _ (signed_fits (2 ^ 12) n (omega arith)) (eq-eqb _ _ (multiple_b n (omega arith) (omega arith)))
read_imm_fits S word = signed_fits (2 ^ 11) (gathered pieces_s word) (omega arith)
read_imm_fits H6 word = lt-ltb _ _ (omega arith)
read_imm_fits H5 word = lt-ltb _ _ (omega arith)
read_imm_fits C word = lt-ltb _ _ (omega arith)
read_imm_fits K word = lt-ltb _ _ (omega arith)
read_imm_fits _ word = refl

-- What is read from a word fits.
pub read_fits : (form : Form) (word : ℕ) (f : Field) → fits form (fields_of form word) f ≡ true
read_fits form word Rd = read_in_room (has_rd form) 32 (rd_of word) (omega arith)
read_fits form word Rs1 = read_in_room (has_rs1 form) 32 (rs1_of word) (omega arith)
read_fits form word Rs2 = read_in_room (has_rs2 form) 32 (rs2_of word) (omega arith)
read_fits form word Imm = read_imm_fits form word
read_fits form word AqRl = read_in_room (has_aqrl form) 4 (aqrl_of word) (omega arith)

-- ---- immediates

-- how many numbers the bits of the form's immediate can hold
abbrev size_of : Form → ℕ
size_of U = 2 ^ 32
size_of J = 2 ^ 21
size_of I = 2 ^ 12
size_of B = 2 ^ 13
size_of S = 2 ^ 12
size_of H6 = 2 ^ 6
size_of H5 = 2 ^ 5
size_of C = 2 ^ 12
size_of K = 2 ^ 12
size_of _ = 1

-- the word with a number's bits at the immediate's places, and no other bit
abbrev placed : Form → ℕ → ℕ
placed U n = scattered pieces_u n
placed J n = scattered pieces_j n
placed I n = scattered pieces_i n
placed B n = scattered pieces_b n
placed S n = scattered pieces_s n
placed _ n = n * 2 ^ 20

-- the number at the immediate's places in a word
abbrev number_in : Form → ℕ → ℕ
number_in U word = gathered pieces_u word
number_in J word = gathered pieces_j word
number_in I word = gathered pieces_i word
number_in B word = gathered pieces_b word
number_in S word = gathered pieces_s word
number_in H6 word = bits_of word 20 6
number_in H5 word = bits_of word 20 5
number_in C word = bits_of word 20 12
number_in K word = bits_of word 20 12
number_in _ word = 0

number_lt : (form : Form) (z : ℤ) → modulo (size_of form) z < size_of form
number_lt U z = modulo-lt (2 ^ 32) z (lit< tt)
number_lt form z = modulo-lt (size_of form) z (lit< tt)

-- the immediate that is read is the number there, with its sign
number_read : (form : Form) (word : ℕ) → modulo (size_of form) (imm_of form word) ≡ number_in form word
number_read U word = modulo-signed (2 ^ 31) (gathered pieces_u word) (omega arith)
number_read J word = modulo-signed (2 ^ 20) (gathered pieces_j word) (omega arith)
number_read I word = modulo-signed (2 ^ 11) (gathered pieces_i word) (omega arith)
number_read B word = modulo-signed (2 ^ 12) (gathered pieces_b word) (omega arith)
number_read S word = modulo-signed (2 ^ 11) (gathered pieces_s word) (omega arith)
number_read _ word = omega arith

pos-modulo : (size : ℕ) (z : ℤ) → is_below size z ≡ true → pos (modulo size z) ≡ z
pos-modulo size (pos n) h = ap pos (mod-eq_of_lt (ltb-true _ _ h))
pos-modulo size (negsuc n) h = absurd cc

zero-is : (z : ℤ) → is_below 1 z ≡ true → pos 0 ≡ z
zero-is (pos n) h = let small : n < 1 = ltb-true _ _ h in ap pos (omega arith)
zero-is (negsuc n) h = absurd cc

-- ---- packing

-- the bits of a word that its form's mask has
abbrev kept : Form → ℕ → ℕ
kept U word = word % 2 ^ 7
kept J word = word % 2 ^ 7
kept H6 word = word % 2 ^ 7 + bits_of word 12 3 * 2 ^ 12 + bits_of word 26 6 * 2 ^ 26
kept H5 word = word % 2 ^ 7 + bits_of word 12 3 * 2 ^ 12 + bits_of word 25 7 * 2 ^ 25
kept R word = word % 2 ^ 7 + bits_of word 12 3 * 2 ^ 12 + bits_of word 25 7 * 2 ^ 25
kept A word = word % 2 ^ 7 + bits_of word 12 3 * 2 ^ 12 + bits_of word 27 5 * 2 ^ 27
kept L word = word % 2 ^ 7 + bits_of word 12 3 * 2 ^ 12 + bits_of word 20 5 * 2 ^ 20 + bits_of word 27 5 * 2 ^ 27
kept V word = word % 2 ^ 15 + bits_of word 25 7 * 2 ^ 25
kept N word = word % 2 ^ 32
kept _ word = word % 2 ^ 7 + bits_of word 12 3 * 2 ^ 12

mask_keeps : (form : Form) (word : ℕ) → bit_and word (mask_of form) ≡ kept form word
mask_keeps U word = opcode word
mask_keeps J word = opcode word
mask_keeps H6 word = with_funct6 word
mask_keeps H5 word = with_funct7 word
mask_keeps R word = with_funct7 word
mask_keeps A word = with_funct5 word
mask_keeps L word = with_rs2_and_funct5 word
mask_keeps V word = with_rd word
mask_keeps N word = whole word
mask_keeps _ word = with_funct3 word

-- what a value and operands that fit a form are
record Fitting (form : Form) (value : ℕ) (ops : Ops) : Type 0 where
  value_is : kept form value ≡ value
  rd : ops.rd < room (has_rd form) 32
  rs1 : ops.rs1 < room (has_rs1 form) 32
  rs2 : ops.rs2 < room (has_rs2 form) 32
  aqrl : ops.aqrl < room (has_aqrl form) 4

fitting : (form : Form) (value : ℕ) (ops : Ops) → bit_and value (mask_of form) ≡ value → ((f : Field) → fits form ops f ≡ true) → Fitting form value ops
fitting form value ops masked fit = record {
  value_is = sym (mask_keeps form value) ∙ masked;
  rd = in_room (has_rd form) 32 ops.rd (fit Rd);
  rs1 = in_room (has_rs1 form) 32 ops.rs1 (fit Rs1);
  rs2 = in_room (has_rs2 form) 32 ops.rs2 (fit Rs2);
  aqrl = in_room (has_aqrl form) 4 ops.aqrl (fit AqRl);
}

-- They make a word of 32 bits.
word_lt : (form : Form) (value : ℕ) (ops : Ops) → Fitting form value ops → without_imm value ops < 2 ^ 32
word_lt U value ops f = omega (arith, f.value_is, f.rd, f.rs1, f.rs2, f.aqrl)
word_lt form value ops f = omega (arith, f.value_is, f.rd, f.rs1, f.rs2, f.aqrl)

pub is_word : (form : Form) (value : ℕ) (ops : Ops) → bit_and value (mask_of form) ≡ value → ((f : Field) → fits form ops f ≡ true) → without_imm value ops < 2 ^ 32
is_word form value ops masked fit = word_lt form value ops (fitting form value ops masked fit)

-- Where the bits of the immediate are 0, an immediate is put by adding its bits.
packed_is : (form : Form) (value : ℕ) (ops : Ops) → Fitting form value ops
    → packed form value ops ≡ without_imm value ops + placed form (modulo (size_of form) ops.imm)
packed_is U value ops f = ap (λ w. w + scattered pieces_u (modulo (2 ^ 32) ops.imm)) (others_u (without_imm value ops) ∙ omega (arith, f.value_is, f.rd, f.rs1, f.rs2, f.aqrl))
packed_is J value ops f = ap (λ w. w + scattered pieces_j (modulo (2 ^ 21) ops.imm)) (others_j (without_imm value ops) ∙ omega (arith, f.value_is, f.rd, f.rs1, f.rs2, f.aqrl))
packed_is I value ops f = ap (λ w. w + scattered pieces_i (modulo (2 ^ 12) ops.imm)) (others_i (without_imm value ops) ∙ omega (arith, f.value_is, f.rd, f.rs1, f.rs2, f.aqrl))
packed_is B value ops f = ap (λ w. w + scattered pieces_b (modulo (2 ^ 13) ops.imm)) (others_b (without_imm value ops) ∙ omega (arith, f.value_is, f.rd, f.rs1, f.rs2, f.aqrl))
packed_is S value ops f = ap (λ w. w + scattered pieces_s (modulo (2 ^ 12) ops.imm)) (others_s (without_imm value ops) ∙ omega (arith, f.value_is, f.rd, f.rs1, f.rs2, f.aqrl))
packed_is form value ops f = omega (arith, number_lt form ops.imm)

placed_lt : (form : Form) (value : ℕ) (ops : Ops) (n : ℕ) → Fitting form value ops → n < size_of form → without_imm value ops + placed form n < 2 ^ 32
placed_lt U value ops n f small = omega (arith, f.value_is, f.rd, f.rs1, f.rs2, f.aqrl)
placed_lt form value ops n f small = omega (arith, f.value_is, f.rd, f.rs1, f.rs2, f.aqrl)

pub packed_lt : (form : Form) (value : ℕ) (ops : Ops) → bit_and value (mask_of form) ≡ value → ((f : Field) → fits form ops f ≡ true) → packed form value ops < 2 ^ 32
packed_lt form value ops masked fit =
    let f = fitting form value ops masked fit in
    let P : ℕ → Type 0 = λ w. w < 2 ^ 32 in
    subst P (sym (packed_is form value ops f)) (placed_lt form value ops _ f (number_lt form ops.imm))

-- the fields are where they were put
record Read (form : Form) (value : ℕ) (ops : Ops) (n word : ℕ) : Type 0 where
  row : kept form word ≡ value
  rd : cond (has_rd form) (rd_of word) 0 ≡ ops.rd
  rs1 : cond (has_rs1 form) (rs1_of word) 0 ≡ ops.rs1
  rs2 : cond (has_rs2 form) (rs2_of word) 0 ≡ ops.rs2
  aqrl : cond (has_aqrl form) (aqrl_of word) 0 ≡ ops.aqrl

placed_apart : (form : Form) (value : ℕ) (ops : Ops) (n : ℕ) → Fitting form value ops → n < size_of form → Read form value ops n (without_imm value ops + placed form n)
placed_apart U value ops n f small = record {
  row = omega (arith, f.value_is, f.rd, f.rs1, f.rs2, f.aqrl);
  rd = omega (arith, f.value_is, f.rd, f.rs1, f.rs2, f.aqrl);
  rs1 = omega (arith, f.rs1);
  rs2 = omega (arith, f.rs2);
  aqrl = omega (arith, f.aqrl);
}
placed_apart form value ops n f small = record {
  row = omega (arith, f.value_is, f.rd, f.rs1, f.rs2, f.aqrl);
  rd = omega (arith, f.value_is, f.rd, f.rs1, f.rs2, f.aqrl);
  rs1 = omega (arith, f.value_is, f.rd, f.rs1, f.rs2, f.aqrl);
  rs2 = omega (arith, f.value_is, f.rd, f.rs1, f.rs2, f.aqrl);
  aqrl = omega (arith, f.value_is, f.rd, f.rs1, f.rs2, f.aqrl);
}

-- so is the immediate
imm_read : (form : Form) (value : ℕ) (ops : Ops) → Fitting form value ops → fits_imm form ops.imm ≡ true → imm_of form (packed form value ops) ≡ ops.imm
imm_read U value ops f fit = reads_back_u (without_imm value ops) ops.imm fit
imm_read J value ops f fit = reads_back_j (without_imm value ops) ops.imm fit
imm_read I value ops f fit = reads_back_i (without_imm value ops) ops.imm fit
imm_read B value ops f fit = reads_back_b (without_imm value ops) ops.imm fit
imm_read S value ops f fit = reads_back_s (without_imm value ops) ops.imm fit
imm_read H6 value ops f fit = ap pos (omega (arith, number_lt H6 ops.imm, f.value_is, f.rd, f.rs1, f.rs2, f.aqrl)) ∙ pos-modulo (2 ^ 6) ops.imm fit
imm_read H5 value ops f fit = ap pos (omega (arith, number_lt H5 ops.imm, f.value_is, f.rd, f.rs1, f.rs2, f.aqrl)) ∙ pos-modulo (2 ^ 5) ops.imm fit
imm_read C value ops f fit = ap pos (omega (arith, number_lt C ops.imm, f.value_is, f.rd, f.rs1, f.rs2, f.aqrl)) ∙ pos-modulo (2 ^ 12) ops.imm fit
imm_read K value ops f fit = ap pos (omega (arith, number_lt K ops.imm, f.value_is, f.rd, f.rs1, f.rs2, f.aqrl)) ∙ pos-modulo (2 ^ 12) ops.imm fit
imm_read _ value ops f fit = zero-is ops.imm fit

-- The word of a row's value and of operands that fit is of the row, and has the operands.
pub spells : (form : Form) (value : ℕ) (ops : Ops) → bit_and value (mask_of form) ≡ value → ((f : Field) → fits form ops f ≡ true)
    → (bit_and (packed form value ops) (mask_of form) ≡ value) × (fields_of form (packed form value ops) ≡ ops)
spells form value ops masked fit =
    let f = fitting form value ops masked fit in
    let n = modulo (size_of form) ops.imm in
    let P : ℕ → Type 0 = λ w. Read form value ops n w in
    let read : Read form value ops n (packed form value ops) = subst P (sym (packed_is form value ops f)) (placed_apart form value ops n f (number_lt form ops.imm)) in (
      mask_keeps form (packed form value ops) ∙ read.row,
      ops_eq (fields_of form (packed form value ops)) ops read.rd read.rs1 read.rs2 (imm_read form value ops f (fit Imm)) read.aqrl,
    )

-- the parts of a word make the word
parts_make : (form : Form) (word : ℕ) → word < 2 ^ 32 → without_imm (kept form word) (fields_of form word) + placed form (number_in form word) ≡ word
parts_make U word h = omega arith
parts_make form word h = omega arith

-- What is read from a word is packed to the word.
pub packs_again : (form : Form) (word : ℕ) → word < 2 ^ 32 → packed form (bit_and word (mask_of form)) (fields_of form word) ≡ word
packs_again form word h =
    let value = bit_and word (mask_of form) in
    let ops = fields_of form word in
    let twice : bit_and value (mask_of form) ≡ value = and_assoc (mask_of form) word (mask_of form) ∙ ap (bit_and word) (and_self (mask_of form)) in
    packed_is form value ops (fitting form value ops twice (read_fits form word))
    ∙ ap (λ m. without_imm value ops + placed form m) (number_read form word)
    ∙ ap (λ v. without_imm v ops + placed form (number_in form word)) (mask_keeps form word)
    ∙ parts_make form word h
