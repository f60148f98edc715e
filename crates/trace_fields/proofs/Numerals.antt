-- What a field spells in digits of a base, and which fields spell nothing.
use Rattle.std.proofs.Common.{◌≡◌, ℕ, ◌<◌, ◌≤◌, ◌^◌, eqb, List, [], ◌∷◌, length, Bool, true, false, not, ◌&&◌, ◌||◌, refl, sym, ap, ◌∙◌, arith, inl, inr, Option, Some, None, SomeIff, Decides, subst}
use Rattle.std.proofs.Math.Nat.{pow-le-pow_left}
use Rattle.std.specs.Prelude.{nat_lt, ◌==◌}
use Rattle.std.specs.Str.{bytes_eq, IsUtf8, IsAscii}
use Rattle.std.specs.List.{starts_with}
use Rattle.std.specs.Char.{digit_value}
use Rattle.std.specs.Fmt.{digits}
use Rattle.std.specs.Str.Parse.{AllDigits, IsNumeral, digits_value, without_leading_plus}
use Rattle.std.proofs.lemmas.Bool.{cases_Bool, eqb-true, and_parts, and_from, not-true, cond-true, cond-false, false_from_ne_true, both_ways}
use Rattle.std.proofs.lemmas.Bool.Decides.{Decides-and, Decides-ltb, nat_tests}
use Rattle.std.proofs.lemmas.Slice.Eq.{bytes_eq-Decides}
use Rattle.std.proofs.lemmas.Str.{IsUtf8-from_ascii}
use Rattle.std.proofs.lemmas.Str.Ascii.{IsAscii-nil, IsAscii-cons}
use Rattle.std.proofs.lemmas.Fmt.{digits_is_IsNumeral}
use Rattle.std.proofs.lemmas.Int.Digits.{digits_value-lt}
use Rattle.std.proofs.lemmas.Option.{none-some, same_Some}
use Rattle.trace_fields.specs.Text.{wide_hex}
use Rattle.trace_fields.specs.Numbers.{spelled_by, number_below, wide_hex_reading, is_plain, is_lower}
use Rattle.trace_fields.proofs.Bases.{AreDigits, digits_are, digits_plain, no_plus, plain_digits, wide_digits, wide_are, within_16_digits, length-wide_hex}

module _ (spelling : ℕ → List ℕ) (base bound : ℕ) (field : List ℕ) where
  -- the field is the spelling of its value, which is below the bound
  abbrev pub Spells : Type 0
  Spells = (digits_value base field < bound) × (spelling (digits_value base field) ≡ field)

  abbrev spells : Bool
  spells = nat_lt (digits_value base field) bound && bytes_eq (spelling (digits_value base field)) field

  spells_Decides : Decides spells Spells
  spells_Decides = Decides-and (nat_lt (digits_value base field) bound) (bytes_eq (spelling (digits_value base field)) field)
      (Decides-ltb (digits_value base field) bound) (bytes_eq-Decides (spelling (digits_value base field)) field)

  pub spelled : Spells → spelled_by spelling base bound field ≡ Some (digits_value base field)
  spelled is = cond-true spells (Some (digits_value base field)) None (spells_Decides.1 is)

  pub unspelled : (Spells → ⊥) → spelled_by spelling base bound field ≡ None
  unspelled never = cond-false spells (Some (digits_value base field)) None (false_from_ne_true spells (λ is. never (spells_Decides.0 is)))

  -- a reader that gives the value just where P holds reads what the field spells, where P says that it spells a number
  pub read : (P : Type 0) (r : Option ℕ) → SomeIff r P (digits_value base field) → (P → Spells) → (Spells → P)
      → r ≡ spelled_by spelling base bound field
  read P None gives to from = sym (unspelled (λ is. gives (from is)))
  read P (Some x) gives to from = sym (spelled (to gives.0) ∙ ap Some (sym gives.1))

  pub found : (n : ℕ) → spelled_by spelling base bound field ≡ Some n → (digits_value base field ≡ n) × (n < bound) × (spelling n ≡ field)
  found n is = elim (cases_Bool spells) [
    | inl same_text ↦
        let parts = spells_Decides.0 same_text in
        let same : digits_value base field ≡ n = same_Some (digits_value base field) n (sym (spelled parts) ∙ is) in
        (same, omega (arith, parts.0), ap spelling (sym same) ∙ parts.1)
    | inr other ↦ absurd (none-some n (sym (cond-false spells (Some (digits_value base field)) None other) ∙ is))
  ]

-- a spelling with its number for its value is read back
pub again : (spelling : ℕ → List ℕ) (base bound n : ℕ) → digits_value base (spelling n) ≡ n → n < bound
    → spelled_by spelling base bound (spelling n) ≡ Some n
again spelling base bound n value below =
    spelled spelling base bound (spelling n) (omega (arith, value), ap spelling value) ∙ ap Some value

-- digits are ASCII
digit_ascii : (c : ℕ) → digit_value c < 16 → c < 128
digit_ascii c digit = grind (arith, nat_tests)

digits_ascii : (base : ℕ) (ds : List ℕ) → base ≤ 16 → AllDigits base ds → IsAscii ds
digits_ascii base [] most all = IsAscii-nil
digits_ascii base (c ∷ cs) most all = IsAscii-cons c cs (digit_ascii c (omega (arith, all.0))) (digits_ascii base cs most all.1)

-- so what isn't text is no numeral
pub not_text : (base : ℕ) (field : List ℕ) → base ≤ 16 → ¬ (IsUtf8 field) → ¬ (IsNumeral base (without_leading_plus field))
not_text base [] most fails numeral = omega (arith, numeral.0)
not_text base (c ∷ cs) most fails numeral = fails (IsUtf8-from_ascii (c ∷ cs) (elim (cases_Bool (c == 43)) [
  | inl plus ↦ IsAscii-cons c cs (omega (arith, eqb-true c 43 plus)) (digits_ascii base cs most (rw plus at numeral).1)
  | inr other ↦ digits_ascii base (c ∷ cs) most (rw other at numeral).1
]))

-- r is what `parsed` gives of these digits
abbrev pub IsParsed : ℕ → List ℕ → Option ℕ → Type 0
IsParsed base ds r = SomeIff r (IsNumeral base ds × (digits_value base ds < 2 ^ 64)) (digits_value base ds)

no_plus_front : (field : List ℕ) → is_plain field ≡ true → without_leading_plus field ≡ field
no_plus_front [] plain = refl
no_plus_front (c ∷ cs) plain =
    let parts = and_parts (not (c == 0x2b)) (not (c == 0x30) || length cs == 0) plain in
    rw (not-true (c == 0x2b) parts.0) refl

-- a number below 2 ^ 64 has 64 digits at most
module _ (base : ℕ) (low : 2 ≤ base) (most : base ≤ 16) (field : List ℕ) where
  few_digits : digits_value base field < 2 ^ 64 → digits_value base field < base ^ 64
  few_digits small = omega (arith, pow-le-pow_left low 64)

  number_spells : is_plain field ≡ true → is_lower field ≡ true → IsNumeral base field → digits_value base field < 2 ^ 64
      → Spells (digits base false) base (2 ^ 64) field
  number_spells plain lower numeral small =
      (small, plain_digits base low most field (record { digits = numeral.1; lower = lower }) numeral.0 plain (few_digits small))

  spells_number : Spells (digits base false) base (2 ^ 64) field → (is_plain field ≡ true) × (is_lower field ≡ true) × IsNumeral base field
  spells_number is =
      let value = digits_value base field in
      let small = few_digits is.0 in
      let numeral = digits_is_IsNumeral base false low most value small in (
        ap is_plain (sym is.1) ∙ digits_plain base low most value small,
        ap is_lower (sym is.1) ∙ (digits_are base low most value small).lower,
        subst (IsNumeral base) is.1 numeral.0,
      )

  pub number_read : (r : Option ℕ) → is_plain field ≡ true → is_lower field ≡ true → IsParsed base (without_leading_plus field) r
      → r ≡ number_below base (2 ^ 64) field
  number_read r plain lower gives =
      read (digits base false) base (2 ^ 64) field (IsNumeral base field × (digits_value base field < 2 ^ 64)) r
      (subst (λ ds. IsParsed base ds r) (no_plus_front field plain) gives)
      (λ is. number_spells plain lower is.0 is.1) (λ is. ((spells_number is).2, is.0))

  pub number_unread : (is_plain field && is_lower field) ≡ false → None ≡ number_below base (2 ^ 64) field
  number_unread fails = sym (unspelled (digits base false) base (2 ^ 64) field
      (λ is. both_ways (is_plain field && is_lower field) fails (and_from (is_plain field) (is_lower field) (spells_number is).0 (spells_number is).1)))

begins_with_plus : (c : ℕ) (cs : List ℕ) → starts_with eqb (c ∷ cs) (43 ∷ []) ≡ (c == 43)
begins_with_plus c cs = grind (arith, nat_tests)

front_is_first : (field : List ℕ) → starts_with eqb field (43 ∷ []) ≡ false → without_leading_plus field ≡ field
front_is_first [] other = refl
front_is_first (c ∷ cs) other = rw (sym (begins_with_plus c cs) ∙ other) refl

digits_without_plus : (field : List ℕ) → AllDigits 16 field → starts_with eqb field (43 ∷ []) ≡ false
digits_without_plus [] all = refl
digits_without_plus (c ∷ cs) all = begins_with_plus c cs ∙ not-true (c == 43) (no_plus 16 (omega arith) (omega arith) c all.0)

module _ (width : ℕ) (some : 0 < width) (narrow : width ≤ 16) (field : List ℕ) where
  wide_spells : length field ≡ width → is_lower field ≡ true → AllDigits 16 field → Spells (wide_hex width) 16 (16 ^ width) field
  wide_spells long lower all =
      let value = digits_value 16 field in
      let below : value < 16 ^ width = subst (λ k. value < 16 ^ k) long (digits_value-lt 16 field all) in
      let small = within_16_digits width value narrow below in
      (below, wide_digits 16 (omega arith) (omega arith) width field (record { digits = all; lower = lower }) some long (omega arith))

  spells_wide : Spells (wide_hex width) 16 (16 ^ width) field → (length field ≡ width) × AreDigits 16 field
  spells_wide is =
      let value = digits_value 16 field in (
        ap length (sym is.1) ∙ length-wide_hex width value some narrow is.0,
        subst (AreDigits 16) is.1 (wide_are width value (within_16_digits width value narrow is.0)),
      )

  pub wide_read : (r : Option ℕ) → length field ≡ width → starts_with eqb field (43 ∷ []) ≡ false → is_lower field ≡ true
      → IsParsed 16 (without_leading_plus field) r → r ≡ wide_hex_reading width field
  wide_read r long front lower gives =
      read (wide_hex width) 16 (16 ^ width) field (IsNumeral 16 field × (digits_value 16 field < 2 ^ 64)) r
      (subst (λ ds. IsParsed 16 ds r) (front_is_first field front) gives)
      (λ is. wide_spells long lower is.0.1)
      (λ is. ((omega arith, (spells_wide is).1.digits), within_16_digits width (digits_value 16 field) narrow is.0))

  pub wide_unread : (length field ≡ width → starts_with eqb field (43 ∷ []) ≡ false → is_lower field ≡ false) → None ≡ wide_hex_reading width field
  wide_unread fails = sym (unspelled (wide_hex width) 16 (16 ^ width) field (λ is.
      let parts = spells_wide is in
      both_ways (is_lower field) (fails parts.0 (digits_without_plus field parts.1.digits)) parts.1.lower))

-- a number that is read below one bound is not read below a lower one that it passes
pub too_large : (spelling : ℕ → List ℕ) (base wide bound n : ℕ) (field : List ℕ) → spelled_by spelling base wide field ≡ Some n → bound ≤ n
    → spelled_by spelling base bound field ≡ None
too_large spelling base wide bound n field is above =
    unspelled spelling base bound field (λ spelled_below. omega (arith, (found spelling base wide field n is).0, spelled_below.0))
