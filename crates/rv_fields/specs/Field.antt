-- Some bits of a number of 64 bits: those of a mask, and fields.
use Rattle.std.specs.Prelude.{ℕ, ◌+◌, ◌-◌, ◌*◌, ◌^◌, ◌≤◌, ◌⊎◌, bit_and, bit_or}
use Rattle.rv_fields.specs.Immediate.{bits_of}

-- the bits of the mask from the new number, and all others from the old one
unfoldable pub masked : ℕ → ℕ → ℕ → ℕ
masked mask old new = bit_or (bit_and old (2 ^ 64 - 1 - mask)) (bit_and new mask)

-- a field: so many neighbouring bits, the lowest of them at place low
pub record Field : Type 0 where
  pub low : ℕ
  pub width : ℕ

-- a field of one bit
abbrev pub bit : ℕ → Field
bit place = record { low = place; width = 1 }

-- the number that stands in the field
unfoldable pub field_of : Field → ℕ → ℕ
field_of field n = bits_of n field.low field.width

-- the number whose bits are those of the field
abbrev pub field_mask : Field → ℕ
field_mask field = (2 ^ field.width - 1) * 2 ^ field.low

-- the same number, with this value in the field
unfoldable pub with_field : Field → ℕ → ℕ → ℕ
with_field field n value = masked (field_mask field) n (value * 2 ^ field.low)

-- the fields have no bit in common
abbrev pub AreApart : Field → Field → Type 0
AreApart f g = (f.low + f.width ≤ g.low) ⊎ (g.low + g.width ≤ f.low)
