-- Digits of a base from 2 to 16 with letters in lower case: each number has one text, and the text that one number.
use Rattle.std.proofs.Common.{◌≡◌, ℕ, zero, suc, ◌+◌, ◌-◌, ◌*◌, ◌/◌, ◌%◌, ◌<◌, ◌≤◌, ◌^◌, List, [], ◌∷◌, ◌++◌, length, get_or, replicate, map, Bool, true, false, not, ◌&&◌, ◌||◌, refl, sym, ap, ◌∙◌, arith, inl, inr, subst, append-nil, append_assoc, length-append, div-lt_iff_lt-mul, pow-suc}
use Rattle.std.proofs.Math.Nat.{pow-le-pow_right, pow-zero, zero-div, zero-mul, mod-eq_of_lt}
use Rattle.std.specs.Prelude.{nat_le, ◌==◌}
use Rattle.std.specs.Fmt.{digits, digits_onto, digit_glyph}
use Rattle.std.specs.Char.{digit_value}
use Rattle.std.specs.Int.Digits.{digits_of}
use Rattle.std.specs.Str.Parse.{AllDigits, IsNumeral, digits_value, digits_value_after}
use Rattle.std.proofs.lemmas.Bool.{cases_eq, cases_lt, and_parts, and_from, ne_eqb, eq-eqb, eqb-true, not_from_false, or_left, or_right}
use Rattle.std.proofs.lemmas.Bool.Decides.{nat_tests}
use Rattle.std.proofs.lemmas.Fmt.{digits_is_IsNumeral}
use Rattle.std.proofs.lemmas.Int.Digits.{digits_of_step, first_digits_of, length-digits_of-le, digits_value-lt}
use Rattle.std.proofs.lemmas.List.{map_push, length-map, length-replicate}
use Rattle.std.proofs.lemmas.Nat.{div-mul-add}
use Rattle.trace_fields.specs.Text.{hex, wide_hex}
use Rattle.trace_fields.specs.Numbers.{is_plain, is_lower}

-- no letter in upper case
abbrev pub lower_byte : ℕ → Bool
lower_byte c = not (nat_le 0x41 c && nat_le c 0x5a)

glyph_lower : (d : ℕ) → lower_byte (digit_glyph false d) ≡ true
glyph_lower d = grind (arith, nat_tests)

glyph_back : (c : ℕ) → digit_value c < 16 → lower_byte c ≡ true → digit_glyph false (digit_value c) ≡ c
glyph_back c digit lower = grind (arith, nat_tests)

glyph_zero : (d : ℕ) → 0 < d → digit_glyph false d ≡ 48 → ⊥
glyph_zero d some same = grind (arith, nat_tests)

lower_glyphs : (ds : List ℕ) → is_lower (map (digit_glyph false) ds) ≡ true
lower_glyphs [] = refl
lower_glyphs (d ∷ ds) = and_from (lower_byte (digit_glyph false d)) (is_lower (map (digit_glyph false) ds)) (glyph_lower d) (lower_glyphs ds)

-- digits of a base, no letter in upper case
pub record AreDigits (base : ℕ) (ds : List ℕ) : Type 0 where
  pub digits : AllDigits base ds
  pub lower : is_lower ds ≡ true

-- zeros in front, to so many digits at least
abbrev pub padded : ℕ → List ℕ → List ℕ
padded width ds = replicate (width - length ds) 48 ++ ds

module _ (base : ℕ) (low : 2 ≤ base) (high : base ≤ 16) where
  onto_last : (k n : ℕ) (acc : List ℕ) → n / base ≡ 0 → digits_onto (suc k) base false n acc ≡ digit_glyph false (n % base) ∷ acc
  onto_last k n acc last = rw (eq-eqb (n / base) 0 last) refl

  onto_more : (k n : ℕ) (acc : List ℕ) → (n / base ≡ 0 → ⊥)
      → digits_onto (suc k) base false n acc ≡ digits_onto k base false (n / base) (digit_glyph false (n % base) ∷ acc)
  onto_more k n acc more = rw (ne_eqb (n / base) 0 more) refl

  glyphs_step : (n : ℕ) → 0 < n
      → map (digit_glyph false) (digits_of base n) ≡ map (digit_glyph false) (digits_of base (n / base)) ++ digit_glyph false (n % base) ∷ []
  glyphs_step n some =
      ap (map (digit_glyph false)) (digits_of_step base n low some) ∙ map_push (digit_glyph false) (digits_of base (n / base)) (n % base)

  onto_is : (k n : ℕ) (acc : List ℕ) → 0 < n → n < base ^ k → digits_onto k base false n acc ≡ map (digit_glyph false) (digits_of base n) ++ acc
  onto_is zero n acc some small = absurd (omega (arith, pow-zero base))
  onto_is (suc k) n acc some small = elim (cases_eq (n / base) 0) [
    | inl last ↦
        let none : map (digit_glyph false) (digits_of base (n / base)) ≡ [] = ap (λ q. map (digit_glyph false) (digits_of base q)) last in
        rw (onto_last k n acc last, glyphs_step n some, none) refl
    | inr more ↦
        let positive : 0 < base = omega arith in
        let fewer : n / base < base ^ k = (div-lt_iff_lt-mul positive).1 (omega (arith, pow-suc base k)) in
        rw (onto_more k n acc more, onto_is k (n / base) (digit_glyph false (n % base) ∷ acc) (omega arith) fewer, glyphs_step n some, append_assoc) refl
  ]

  digits_is : (n : ℕ) → 0 < n → n < base ^ 64 → digits base false n ≡ map (digit_glyph false) (digits_of base n)
  unfolding digits
  digits_is n some small = onto_is 64 n [] some small ∙ append-nil (map (digit_glyph false) (digits_of base n))

  digits_zero : digits base false 0 ≡ 48 ∷ []
  unfolding digits
  digits_zero =
      let positive : 0 < base = omega arith in
      onto_last 63 0 [] (zero-div base) ∙ ap (λ d. digit_glyph false d ∷ []) (mod-eq_of_lt positive)

  digits_lower : (n : ℕ) → n < base ^ 64 → is_lower (digits base false n) ≡ true
  digits_lower zero small = rw digits_zero refl
  digits_lower (suc n) small = rw (digits_is (suc n) (omega arith) small) (lower_glyphs (digits_of base (suc n)))

  pub digits_are : (n : ℕ) → n < base ^ 64 → AreDigits base (digits base false n)
  digits_are n small = record { digits = (digits_is_IsNumeral base false low high n small).0.1; lower = digits_lower n small }

  -- a number's digits begin with a zero only where it is zero
  digits_first : (n : ℕ) → n < base ^ 64 → get_or (digits base false n) 0 0 ≡ 48 → n ≡ 0
  digits_first zero small first = refl
  digits_first (suc n) small first = absurd (never (digits_of base (suc n)) (first_digits_of base (suc n) low (omega arith))
      (ap (λ (ds : List ℕ). get_or ds 0 0) (sym (digits_is (suc n) (omega arith) small)) ∙ first))
    where
      never : (ds : List ℕ) → 0 < get_or ds 0 0 → get_or (map (digit_glyph false) ds) 0 0 ≡ 48 → ⊥
      never [] some same = omega arith
      never (d ∷ ds) some same = glyph_zero d some same

  length-digits : (width n : ℕ) → 0 < width → n < base ^ width → n < base ^ 64 → length (digits base false n) ≤ width
  length-digits width zero some fits small = omega (arith, ap length digits_zero)
  length-digits width (suc n) some fits small =
      let same : length (digits base false (suc n)) ≡ length (digits_of base (suc n)) =
      ap length (digits_is (suc n) (omega arith) small) ∙ length-map (digits_of base (suc n)) (digit_glyph false) in
      omega (arith, same, length-digits_of-le base width (suc n) low fits)

  -- as many digits of one value are the same digits
  same_after : (m n : ℕ) (ds es : List ℕ) → length ds ≡ length es → AreDigits base ds → AreDigits base es
      → digits_value_after base m ds ≡ digits_value_after base n es → (m ≡ n) × (ds ≡ es)
  same_after m n [] [] as_long is are same = (same, refl)
  same_after m n [] (e ∷ es) as_long is are same = absurd (omega arith)
  same_after m n (d ∷ ds) [] as_long is are same = absurd (omega arith)
  same_after m n (d ∷ ds) (e ∷ es) as_long is are same =
      let one = and_parts (lower_byte d) (is_lower ds) is.lower in
      let two = and_parts (lower_byte e) (is_lower es) are.lower in
      let rest = same_after (m * base + digit_value d) (n * base + digit_value e) ds es (omega arith)
      (record { digits = is.digits.1; lower = one.1 }) (record { digits = are.digits.1; lower = two.1 }) same in
      let front : m ≡ n = sym (div-mul-add m base (digit_value d) is.digits.0) ∙ ap (λ t. t / base) rest.0 ∙ div-mul-add n base (digit_value e) are.digits.0 in
      let last : digit_value d ≡ digit_value e = omega (arith, rest.0, ap (λ t. t * base) front) in
      let head : d ≡ e =
      sym (glyph_back d (omega (arith, is.digits.0)) one.0) ∙ ap (digit_glyph false) last ∙ glyph_back e (omega (arith, are.digits.0)) two.0 in
      (front, λ i. head i ∷ rest.1 i)

  same_digits : (ds es : List ℕ) → length ds ≡ length es → AreDigits base ds → AreDigits base es
      → digits_value base ds ≡ digits_value base es → ds ≡ es
  same_digits ds es as_long is are same = (same_after 0 0 ds es as_long is are same).1

  zeros_value : (k : ℕ) (ds : List ℕ) → digits_value base (replicate k 48 ++ ds) ≡ digits_value base ds
  zeros_value zero ds = refl
  zeros_value (suc k) ds = ap (λ n. digits_value_after base (n + 0) (replicate k 48 ++ ds)) (zero-mul base) ∙ zeros_value k ds

  zeros_are : (k : ℕ) (ds : List ℕ) → AreDigits base ds → AreDigits base (replicate k 48 ++ ds)
  zeros_are zero ds are = are
  zeros_are (suc k) ds are =
      let rest = zeros_are k ds are in
      record { digits = (omega arith, rest.digits); lower = rest.lower }

  padded_value : (width : ℕ) (ds : List ℕ) → digits_value base (padded width ds) ≡ digits_value base ds
  padded_value width ds = zeros_value (width - length ds) ds

  padded_are : (width : ℕ) (ds : List ℕ) → AreDigits base ds → AreDigits base (padded width ds)
  padded_are width ds are = zeros_are (width - length ds) ds are

  length-padded : (width : ℕ) (ds : List ℕ) → length ds ≤ width → length (padded width ds) ≡ width
  length-padded width ds fits =
      omega (arith, length-append (replicate (width - length ds) 48) ds, length-replicate {A = ℕ} (width - length ds) 48)

  pub no_plus : (c : ℕ) → digit_value c < base → not (c == 0x2b) ≡ true
  no_plus c digit = grind (arith, nat_tests)

  plain_text : (n : ℕ) (text : List ℕ) → n < base ^ 64 → digits base false n ≡ text → is_plain text ≡ true
  plain_text n [] small is = refl
  plain_text n (c ∷ cs) small is =
      let all : AllDigits base (c ∷ cs) = subst (AllDigits base) is (digits_are n small).digits in
      let alone : (not (c == 0x30) || length cs == 0) ≡ true = elim (cases_eq c 0x30) [
        | inl zero_first ↦
            let is_zero : n ≡ 0 = digits_first n small (ap (λ (l : List ℕ). get_or l 0 0) is ∙ zero_first) in
            let one : 1 ≡ suc (length cs) = ap length (sym digits_zero ∙ ap (digits base false) (sym is_zero) ∙ is) in
            or_right (not (c == 0x30)) (length cs == 0) (eq-eqb (length cs) 0 (omega arith))
        | inr other ↦ or_left (not (c == 0x30)) (length cs == 0) (not_from_false (c == 0x30) (ne_eqb c 0x30 other))
      ] in
      and_from (not (c == 0x2b)) (not (c == 0x30) || length cs == 0) (no_plus c all.0) alone

  pub digits_plain : (n : ℕ) → n < base ^ 64 → is_plain (digits base false n) ≡ true
  digits_plain n small = plain_text n (digits base false n) small refl

  -- zeros stand in front of a plain text only where there are none
  no_zeros : (k : ℕ) (ds : List ℕ) → 0 < length ds → is_plain (replicate k 48 ++ ds) ≡ true → k ≡ 0
  no_zeros zero ds some plain = refl
  no_zeros (suc k) ds some plain =
      absurd (omega (arith, eqb-true (length (replicate k 48 ++ ds)) 0 plain, length-append (replicate k 48) ds))

  -- so plain digits of one value are the same digits, however many there are
  plain_same : (ds es : List ℕ) → AreDigits base ds → AreDigits base es → 0 < length ds → is_plain es ≡ true → length ds ≤ length es
      → digits_value base ds ≡ digits_value base es → ds ≡ es
  plain_same ds es are too some plain fits same =
      let whole : padded (length es) ds ≡ es = same_digits (padded (length es) ds) es (length-padded (length es) ds fits)
      (padded_are (length es) ds are) too (padded_value (length es) ds ∙ same) in
      let none : length es - length ds ≡ 0 = no_zeros (length es - length ds) ds some (ap is_plain whole ∙ plain) in
      sym (ap (λ k. replicate k 48 ++ ds) none) ∙ whole

  -- plain digits are those of their value
  pub plain_digits : (ds : List ℕ) → AreDigits base ds → 0 < length ds → is_plain ds ≡ true → digits_value base ds < base ^ 64
      → digits base false (digits_value base ds) ≡ ds
  plain_digits ds are some plain small =
      let text = digits base false (digits_value base ds) in
      let numeral = digits_is_IsNumeral base false low high (digits_value base ds) small in
      elim (cases_lt (length ds) (length text)) [
        | inl fewer ↦ sym (plain_same ds text are (digits_are (digits_value base ds) small) some
            (digits_plain (digits_value base ds) small) (omega arith) (sym numeral.1))
        | inr fits ↦ plain_same text ds (digits_are (digits_value base ds) small) are numeral.0.0 plain fits numeral.1
      ]

  -- and so many digits are those of their value behind zeros
  pub wide_digits : (width : ℕ) (ds : List ℕ) → AreDigits base ds → 0 < width → length ds ≡ width → digits_value base ds < base ^ 64
      → padded width (digits base false (digits_value base ds)) ≡ ds
  wide_digits width ds are some long small =
      let value = digits_value base ds in
      let text = digits base false value in
      let numeral = digits_is_IsNumeral base false low high value small in
      let fits : length text ≤ width = length-digits width value some (subst (λ k. value < base ^ k) long (digits_value-lt base ds are.digits)) small in
      same_digits (padded width text) ds (length-padded width text fits ∙ sym long) (padded_are width text (digits_are value small)) are
      (padded_value width text ∙ numeral.1)

-- The same in base 16, of numbers of 64 bits.
pub hex_numeral : (n : ℕ) → n < 2 ^ 64 → IsNumeral 16 (hex n) × (digits_value 16 (hex n) ≡ n)
hex_numeral n small = digits_is_IsNumeral 16 false (omega arith) (omega arith) n (omega arith)

pub hex_are : (n : ℕ) → n < 2 ^ 64 → AreDigits 16 (hex n)
hex_are n small = digits_are 16 (omega arith) (omega arith) n (omega arith)

pub wide_are : (width n : ℕ) → n < 2 ^ 64 → AreDigits 16 (wide_hex width n)
wide_are width n small = padded_are 16 (omega arith) (omega arith) width (hex n) (hex_are n small)

pub wide_value : (width n : ℕ) → n < 2 ^ 64 → digits_value 16 (wide_hex width n) ≡ n
wide_value width n small = padded_value 16 (omega arith) (omega arith) width (hex n) ∙ (hex_numeral n small).1

pub within_16_digits : (width n : ℕ) → width ≤ 16 → n < 16 ^ width → n < 2 ^ 64
within_16_digits width n narrow below = let positive : 0 < 16 = omega arith in omega (arith, pow-le-pow_right positive narrow)

pub length-wide_hex : (width n : ℕ) → 0 < width → width ≤ 16 → n < 16 ^ width → length (wide_hex width n) ≡ width
length-wide_hex width n some narrow below =
    let small = within_16_digits width n narrow below in
    length-padded 16 (omega arith) (omega arith) width (hex n) (length-digits 16 (omega arith) (omega arith) width n some below (omega arith))
