-- What two registers make bit by bit fits a register.
use Rattle.std.proofs.Common.{◌≡◌, ℕ, ◌^◌, ◌<◌, pos, bit_xor, bit_or, sym, mod-eq_of_lt}
use Rattle.std.proofs.lemmas.Nat.{xor_lt, or_lt}
use Rattle.rv_fields.specs.Immediate.{wrapped}

pub xor_kept : (a b : ℕ) → a < 2 ^ 64 → b < 2 ^ 64 → bit_xor a b ≡ wrapped (pos (bit_xor a b))
xor_kept a b p q = sym (mod-eq_of_lt (xor_lt 64 a b p q))

pub or_kept : (a b : ℕ) → a < 2 ^ 64 → b < 2 ^ 64 → bit_or a b ≡ wrapped (pos (bit_or a b))
or_kept a b p q = sym (mod-eq_of_lt (or_lt 64 a b p q))
