-- The number that a field spells. Each number has one spelling, so reading is the inverse of spelling.
use Rattle.std.specs.Prelude.{ℕ, ◌^◌, Bool, true, not, ◌&&◌, ◌||◌, ◌==◌, nat_le, nat_lt, List, [], ◌∷◌, length, Option, Some, None, if◌then◌else◌, false}
use Rattle.std.specs.List.{list_all}
use Rattle.std.specs.Str.{bytes_eq}
use Rattle.std.specs.Str.Parse.{digits_value}
use Rattle.std.specs.Fmt.{digits}
use Rattle.trace_fields.specs.Text.{wide_hex}

-- The number below the bound that has the field for its spelling. No number can but the one that its digits write in the base.
abbrev pub spelled_by : (ℕ → List ℕ) → ℕ → ℕ → List ℕ → Option ℕ
spelled_by spelling base bound field =
    let n = digits_value base field in
    if nat_lt n bound && bytes_eq (spelling n) field then Some n else None

-- a number below the bound in digits of the base, without leading zeros, the letters in lower case
abbrev pub number_below : ℕ → ℕ → List ℕ → Option ℕ
number_below base bound field = spelled_by (digits base false) base bound field

abbrev pub decimal_below : ℕ → List ℕ → Option ℕ
decimal_below bound field = number_below 10 bound field

abbrev pub hex_below : ℕ → List ℕ → Option ℕ
hex_below bound field = number_below 16 bound field

-- a number of just so many hexadecimal digits
abbrev pub wide_hex_reading : ℕ → List ℕ → Option ℕ
wide_hex_reading width field = spelled_by (wide_hex width) 16 (16 ^ width) field

-- an instruction word
abbrev pub word_reading : List ℕ → Option ℕ
word_reading field = wide_hex_reading 8 field

abbrev pub byte_reading : List ℕ → Option ℕ
byte_reading field = wide_hex_reading 2 field

-- The field begins with no plus sign, and with a zero only where nothing follows.
abbrev pub is_plain : List ℕ → Bool
is_plain [] = true
is_plain (c ∷ cs) = not (c == 0x2b) && (not (c == 0x30) || length cs == 0)

-- no byte is a letter in upper case
abbrev pub is_lower : List ℕ → Bool
is_lower field = list_all (λ c. not (nat_le 0x41 c && nat_le c 0x5a)) field
