-- Numbers under a mask, bit by bit, and the fields of a number.
use Rattle.std.proofs.Common.{◌≡◌, ℕ, ◌+◌, ◌-◌, ◌*◌, ◌/◌, ◌%◌, ◌^◌, ◌<◌, ◌≤◌, min, max, sym, ◌∙◌, ap, arith, inl, inr, add-zero, lit<}
use Rattle.std.specs.Prelude.{bit_and, bit_or}
use Rattle.std.specs.Int.{bit_at, w64}
use Rattle.std.proofs.lemmas.Nat.{and_mod, and_le_r, shr_split, shr-shr, pow_pos, mod_below, shl_below}
use Rattle.std.proofs.Math.Nat.{pow-le-pow_right}
use Rattle.std.proofs.lemmas.Nat.Bits.{bit_at_or, bit_at_and, bit_at_not, bit_at-lt, bit_at-zero, bit_at_ones, bit_at_ones_above, bit_at_cat_low, bit_at_cat_high, same_from_bits, same_from_bits_below}
use Rattle.rv_fields.specs.Field.{Field, masked, field_of, field_mask, with_field, AreApart}

-- of the new number only the bits below the mask's end count
pub cut : (mask old new : ℕ) → mask < 2 ^ 64 → masked mask old (new % 2 ^ 64) ≡ masked mask old new
unfolding masked
cut mask old new small =
    let below : bit_and new mask < 2 ^ 64 = omega (arith, and_le_r new mask) in
    let whole : mask % 2 ^ 64 ≡ mask = omega arith in
    let same : bit_and (new % 2 ^ 64) mask ≡ bit_and new mask =
    ap (bit_and (new % 2 ^ 64)) (sym whole) ∙ sym (and_mod new mask 64) ∙ omega arith in
    ap (bit_or (bit_and old (2 ^ 64 - 1 - mask))) same

-- one bit of a number under a mask
pub bit_at-masked : (mask old new i : ℕ)
    → bit_at (masked mask old new) i ≡ max (min (bit_at old i) (bit_at (2 ^ 64 - 1 - mask) i)) (min (bit_at new i) (bit_at mask i))
unfolding masked
bit_at-masked mask old new i =
    bit_at_or (bit_and old (2 ^ 64 - 1 - mask)) (bit_and new mask) i
    ∙ ap (λ b. max b (bit_at (bit_and new mask) i)) (bit_at_and old (2 ^ 64 - 1 - mask) i)
    ∙ ap (max (min (bit_at old i) (bit_at (2 ^ 64 - 1 - mask) i))) (bit_at_and new mask i)

-- a bit of the mask is the new number's, another one the old number's
new_bit : (o n m c : ℕ) → n < 2 → m ≡ 1 → c ≡ 1 - m → max (min o c) (min n m) ≡ n
new_bit o n m c bit in_mask e = omega arith

old_bit : (o n m c : ℕ) → o < 2 → m ≡ 0 → c ≡ 1 - m → max (min o c) (min n m) ≡ o
old_bit o n m c bit in_mask e = omega arith

pub bit_inside : (mask old new i : ℕ) → mask < 2 ^ 64 → i < 64 → bit_at mask i ≡ 1 → bit_at (masked mask old new) i ≡ bit_at new i
bit_inside mask old new i small below in_mask =
    bit_at-masked mask old new i
    ∙ new_bit (bit_at old i) (bit_at new i) (bit_at mask i) (bit_at (2 ^ 64 - 1 - mask) i) (bit_at-lt new i) in_mask (bit_at_not w64 mask i small below)

pub bit_outside : (mask old new i : ℕ) → mask < 2 ^ 64 → i < 64 → bit_at mask i ≡ 0 → bit_at (masked mask old new) i ≡ bit_at old i
bit_outside mask old new i small below out =
    bit_at-masked mask old new i
    ∙ old_bit (bit_at old i) (bit_at new i) (bit_at mask i) (bit_at (2 ^ 64 - 1 - mask) i) (bit_at-lt old i) out (bit_at_not w64 mask i small below)

-- the same write twice is one write
twice : (o n m c : ℕ) → max (min (max (min o c) (min n m)) c) (min n m) ≡ max (min o c) (min n m)
twice o n m c = omega arith

pub masked-masked : (mask old new : ℕ) → masked mask (masked mask old new) new ≡ masked mask old new
masked-masked mask old new = same_from_bits _ _ (λ i.
    bit_at-masked mask (masked mask old new) new i
    ∙ ap (λ b. max (min b (bit_at (2 ^ 64 - 1 - mask) i)) (min (bit_at new i) (bit_at mask i))) (bit_at-masked mask old new i)
    ∙ twice (bit_at old i) (bit_at new i) (bit_at mask i) (bit_at (2 ^ 64 - 1 - mask) i)
    ∙ sym (bit_at-masked mask old new i))

-- the bits of a shifted number
bit_at_shifted : (n low i : ℕ) → bit_at (n * 2 ^ low) (low + i) ≡ bit_at n i
bit_at_shifted n low i =
    ap (λ m. bit_at m (low + i)) (sym (add-zero (n * 2 ^ low)))
    ∙ bit_at_cat_high n low 0 (low + i) (pow_pos low) (omega arith)
    ∙ ap (bit_at n) (omega arith)

bit_at_below_shifted : (n low i : ℕ) → i < low → bit_at (n * 2 ^ low) i ≡ 0
bit_at_below_shifted n low i below =
    ap (λ m. bit_at m i) (sym (add-zero (n * 2 ^ low))) ∙ bit_at_cat_low n low 0 i below ∙ bit_at-zero i

-- the bits of a field's number
bit_at-field_of : (field : Field) (n i : ℕ) → i < field.width → bit_at (field_of field n) i ≡ bit_at n (field.low + i)
unfolding field_of
bit_at-field_of field n i below =
    let shifted = n / 2 ^ field.low in
    sym (bit_at_cat_low (shifted / 2 ^ field.width) field.width (shifted % 2 ^ field.width) i below)
    ∙ ap (λ m. bit_at m i) (shr_split shifted field.width)
    ∙ ap (λ m. m % 2) (shr-shr n field.low i)

field_of-lt : (field : Field) (n : ℕ) → field_of field n < 2 ^ field.width
unfolding field_of
field_of-lt field n = mod_below (n / 2 ^ field.low) (2 ^ field.width) (pow_pos field.width)

-- the places of a field's bits, and all others
mask_inside : (field : Field) (i : ℕ) → i < field.width → bit_at (field_mask field) (field.low + i) ≡ 1
mask_inside field i below = bit_at_shifted (2 ^ field.width - 1) field.low i ∙ bit_at_ones field.width i below

mask_below : (field : Field) (i : ℕ) → i < field.low → bit_at (field_mask field) i ≡ 0
mask_below field i below = bit_at_below_shifted (2 ^ field.width - 1) field.low i below

mask_above : (field : Field) (i : ℕ) → field.low + field.width ≤ i → bit_at (field_mask field) i ≡ 0
mask_above field i above =
    let at : field.low + (i - field.low) ≡ i = omega arith in
    ap (bit_at (field_mask field)) (sym at)
    ∙ bit_at_shifted (2 ^ field.width - 1) field.low (i - field.low)
    ∙ bit_at_ones_above field.width (i - field.low) (omega arith)

pub mask_small : (field : Field) → field.low + field.width ≤ 64 → field_mask field < 2 ^ 64
mask_small field within =
    let ones : 2 ^ field.width - 1 < 2 ^ field.width = omega (arith, pow_pos field.width) in
    let below : field_mask field < 2 ^ (field.width + field.low) = shl_below (2 ^ field.width - 1) field.width field.low ones in
    let most : 2 ^ (field.width + field.low) ≤ 2 ^ 64 = pow-le-pow_right {n = 2} (lit< tt) {i = field.width + field.low} {j = 64} (omega arith) in
    omega arith

-- a bit beside a field
mask_beside : (field other : Field) (i : ℕ) → AreApart field other → i < other.width → bit_at (field_mask field) (other.low + i) ≡ 0
mask_beside field other i apart below =
    elim apart [
      | inl above ↦ mask_above field (other.low + i) (omega arith)
      | inr under ↦ mask_below field (other.low + i) (omega arith)
    ]

-- What is put in a field stands there, and every other field is as it was.
pub field_of-with_field : (field : Field) (n value : ℕ) → field.low + field.width ≤ 64 → value < 2 ^ field.width
    → field_of field (with_field field n value) ≡ value
unfolding with_field
field_of-with_field field n value within small =
    same_from_bits_below field.width (field_of field (with_field field n value)) value (field_of-lt field (with_field field n value)) small (λ i below.
    bit_at-field_of field (with_field field n value) i below
    ∙ bit_inside (field_mask field) n (value * 2 ^ field.low) (field.low + i) (mask_small field within) (omega arith) (mask_inside field i below)
    ∙ bit_at_shifted value field.low i)

pub field_of-with_field_other : (field other : Field) (n value : ℕ) → field.low + field.width ≤ 64 → other.low + other.width ≤ 64
    → AreApart field other → field_of other (with_field field n value) ≡ field_of other n
unfolding with_field
field_of-with_field_other field other n value within other_within apart =
    let after = with_field field n value in
    same_from_bits_below other.width (field_of other after) (field_of other n) (field_of-lt other after) (field_of-lt other n) (λ i below.
    bit_at-field_of other after i below
    ∙ bit_outside (field_mask field) n (value * 2 ^ field.low) (other.low + i) (mask_small field within) (omega arith) (mask_beside field other i apart below)
    ∙ sym (bit_at-field_of other n i below))

-- a field whose bits are all in the mask, and one that has none in it
pub field_of-masked_inside : (field : Field) (mask old new : ℕ) → field.low + field.width ≤ 64 → mask < 2 ^ 64
    → ((i : ℕ) → i < field.width → bit_at mask (field.low + i) ≡ 1) → field_of field (masked mask old new) ≡ field_of field new
field_of-masked_inside field mask old new within small inside =
    let after = masked mask old new in
    same_from_bits_below field.width (field_of field after) (field_of field new) (field_of-lt field after) (field_of-lt field new) (λ i below.
    bit_at-field_of field after i below
    ∙ bit_inside mask old new (field.low + i) small (omega arith) (inside i below)
    ∙ sym (bit_at-field_of field new i below))

pub field_of-masked_outside : (field : Field) (mask old new : ℕ) → field.low + field.width ≤ 64 → mask < 2 ^ 64
    → ((i : ℕ) → i < field.width → bit_at mask (field.low + i) ≡ 0) → field_of field (masked mask old new) ≡ field_of field old
field_of-masked_outside field mask old new within small outside =
    let after = masked mask old new in
    same_from_bits_below field.width (field_of field after) (field_of field old) (field_of-lt field after) (field_of-lt field old) (λ i below.
    bit_at-field_of field after i below
    ∙ bit_outside mask old new (field.low + i) small (omega arith) (outside i below)
    ∙ sym (bit_at-field_of field old i below))
