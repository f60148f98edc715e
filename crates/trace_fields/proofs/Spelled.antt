-- Each number has one spelling, as a decimal, in hexadecimal digits, or in so many of them: no other field is read as this number.
use Rattle.std.proofs.Common.{◌≡◌, ℕ, ◌<◌, ◌≤◌, ◌^◌, ◌-◌, ◌⊎◌, replicate, subst, length-append, List, [], ◌∷◌, length, true, false, arith, Some, All}
use Rattle.std.specs.Prelude.{◌==◌}
use Rattle.std.specs.Int.{IsInRange}
use Rattle.std.specs.List.{AllByRecursion}
use Rattle.std.specs.Char.{digit_value}
use Rattle.std.specs.Fmt.{decimal, digits}
use Rattle.std.proofs.lemmas.Bool.{ne_eqb, and_parts}
use Rattle.std.proofs.lemmas.Bool.Decides.{nat_tests}
use Rattle.std.proofs.lemmas.Fmt.{decimal_is_IsNumeral}
pub use Rattle.std.proofs.lemmas.Fmt.{decimal_nonempty}
use Rattle.std.proofs.lemmas.List.Elements.{All-nil, All-cons}
use Rattle.trace_fields.specs.Text.{hex, wide_hex}
use Rattle.trace_fields.specs.Numbers.{decimal_below, hex_below, wide_hex_reading, is_lower}
use Rattle.trace_fields.proofs.Bases.{AreDigits, lower_byte, digits_are, hex_numeral, hex_are, wide_are, wide_value, within_16_digits}
pub use Rattle.trace_fields.proofs.Bases.{length-wide_hex}
use Rattle.trace_fields.proofs.Numerals.{found, again}

pub decimal_back : (bound n : ℕ) (f : List ℕ) → decimal_below bound f ≡ Some n → (n < bound) × (decimal n ≡ f)
decimal_back bound n f is = let parts = found (digits 10 false) 10 bound f n is in (parts.1, parts.2)

pub hex_back : (bound n : ℕ) (f : List ℕ) → hex_below bound f ≡ Some n → (n < bound) × (hex n ≡ f)
hex_back bound n f is = let parts = found (digits 16 false) 16 bound f n is in (parts.1, parts.2)

pub wide_back : (width n : ℕ) (f : List ℕ) → wide_hex_reading width f ≡ Some n → (n < 16 ^ width) × (wide_hex width n ≡ f)
wide_back width n f is = let parts = found (wide_hex width) 16 (16 ^ width) f n is in (parts.1, parts.2)

pub decimal_again : (bound n : ℕ) → n < bound → bound ≤ 2 ^ 64 → decimal_below bound (decimal n) ≡ Some n
decimal_again bound n below most = again (digits 10 false) 10 bound n (decimal_is_IsNumeral n (omega arith)).1 below

pub hex_again : (bound n : ℕ) → n < bound → bound ≤ 2 ^ 64 → hex_below bound (hex n) ≡ Some n
hex_again bound n below most = again (digits 16 false) 16 bound n (hex_numeral n (omega arith)).1 below

pub wide_again : (width n : ℕ) → 0 < width → width ≤ 16 → n < 16 ^ width → wide_hex_reading width (wide_hex width n) ≡ Some n
wide_again width n some narrow below = again (wide_hex width) 16 (16 ^ width) n (wide_value width n (within_16_digits width n narrow below)) below

-- a decimal digit, or a letter that is a hexadecimal digit
abbrev pub IsDigitByte : ℕ → Type 0
IsDigitByte c = IsInRange 0x30 0x39 c ⊎ IsInRange 0x61 0x66 c

digit_byte : (c : ℕ) → digit_value c < 16 → lower_byte c ≡ true → IsDigitByte c
digit_byte c digit lower = grind (arith, nat_tests)

digit_bytes : (base : ℕ) (ds : List ℕ) → base ≤ 16 → AreDigits base ds → AllByRecursion IsDigitByte ds
digit_bytes base [] most are = tt
digit_bytes base (c ∷ cs) most are =
    let parts = and_parts (lower_byte c) (is_lower cs) are.lower in
    (digit_byte c (omega (arith, are.digits.0)) parts.0, digit_bytes base cs most (record { digits = are.digits.1; lower = parts.1 }))

pub decimal_bytes : (n : ℕ) → n < 2 ^ 64 → AllByRecursion IsDigitByte (decimal n)
decimal_bytes n small = digit_bytes 10 (decimal n) (omega arith) (digits_are 10 (omega arith) (omega arith) n (omega arith))

pub hex_bytes : (n : ℕ) → n < 2 ^ 64 → AllByRecursion IsDigitByte (hex n)
hex_bytes n small = digit_bytes 16 (hex n) (omega arith) (hex_are n small)

pub wide_bytes : (width n : ℕ) → n < 2 ^ 64 → AllByRecursion IsDigitByte (wide_hex width n)
wide_bytes width n small = digit_bytes 16 (wide_hex width n) (omega arith) (wide_are width n small)

pub hex_nonempty : (n : ℕ) → n < 2 ^ 64 → 0 < length (hex n)
hex_nonempty n small = (hex_numeral n small).0.0

pub wide_nonempty : (width n : ℕ) → n < 2 ^ 64 → 0 < length (wide_hex width n)
wide_nonempty width n small = omega (arith, length-append (replicate (width - length (hex n)) 48) (hex n), hex_nonempty n small)

-- A text of digits lacks each byte that is no digit, as a space, a colon or a newline: there `λ is. omega arith` shows it.
pub lacks : (byte : ℕ) (text : List ℕ) → (IsDigitByte byte → ⊥) → AllByRecursion IsDigitByte text → All (λ c. (c == byte) ≡ false) text
lacks byte [] other all = All-nil (λ c. (c == byte) ≡ false)
lacks byte (c ∷ cs) other all =
    All-cons (λ c. (c == byte) ≡ false) c cs (ne_eqb c byte (λ same. other (subst IsDigitByte same all.0))) (lacks byte cs other all.1)
