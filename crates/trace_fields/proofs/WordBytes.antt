-- The bytes of fields and of their parts.
use Rattle.std.proofs.Common.{◌≡◌, ◌≢◌, refl, ℕ, ◌<◌, ◌≤◌, ◌^◌, ◌&&◌, ◌||◌, ◌==◌, nat_le, List, [], ◌∷◌, ◌++◌, length, get_or, true, ap, sym, subst, arith, inl, inr, Option, Some, None, IfSome}
use Rattle.std.specs.Prelude.{MatchOption}
use Rattle.std.specs.List.{AllByRecursion, list_all, list_any}
use Rattle.std.specs.Char.{encode_utf8}
use Rattle.std.specs.Fmt.{decimal}
use Rattle.std.proofs.lemmas.Bool.{and_parts, or_cases, lt-ltb, eqb-true, leb-true, false≢true}
use Rattle.rv_fields.specs.Name.{is_name_byte, Name}
use Rattle.trace_fields.specs.Text.{hex, wide_hex, none_text, or_none, joined_by, letter_text}
use Rattle.rv_fields.specs.declared.access.AccessKind.{AccessKind}
use Rattle.rv_fields.specs.declared.access.AccessKind.TheVariants.{Load, Store, Lr, Sc, Amo}
use Rattle.rv_fields.specs.declared.mode.Mode.{Mode}
use Rattle.rv_fields.specs.declared.mode.Mode.TheVariants.{U, S, M}
use Rattle.trace_fields.specs.Letters.{access_letters, mode_letters, letter_of_kind, letter_of_mode}
use Rattle.trace_fields.specs.Ranges.{IsAnyOf, IsName}
use Rattle.trace_fields.proofs.Joins.{all_weaken, joined_all, Lacks, lacks}
use Rattle.trace_fields.proofs.Spelled.{IsDigitByte, decimal_bytes, decimal_nonempty, hex_bytes, hex_nonempty, wide_bytes, wide_nonempty}

-- none of the bytes that part what a line tells, and not the one that says that there is nothing
pub record IsWordByte (b : ℕ) : Type 0 where
  pub above : 0x2d < b
  pub no_slash : b ≢ 0x2f
  pub no_colon : b ≢ 0x3a

-- one such byte at least, and no other
pub record IsWord (text : List ℕ) : Type 0 where
  pub some : 1 ≤ length text
  pub plain : AllByRecursion IsWordByte text

digit_byte : (b : ℕ) → IsDigitByte b → IsWordByte b
digit_byte b digit = record { above = omega arith; no_slash = omega arith; no_colon = omega arith }

digits_word : (text : List ℕ) → 1 ≤ length text → AllByRecursion IsDigitByte text → IsWord text
digits_word text some digits = record { some = some; plain = all_weaken IsDigitByte IsWordByte digit_byte text digits }

pub decimal_word : (n : ℕ) → n < 2 ^ 64 → IsWord (decimal n)
decimal_word n small = digits_word (decimal n) (decimal_nonempty n small) (decimal_bytes n small)

pub hex_word : (n : ℕ) → n < 2 ^ 64 → IsWord (hex n)
hex_word n small = digits_word (hex n) (hex_nonempty n small) (hex_bytes n small)

pub wide_word : (width n : ℕ) → n < 2 ^ 64 → IsWord (wide_hex width n)
wide_word width n small = digits_word (wide_hex width n) (wide_nonempty width n small) (wide_bytes width n small)

within : (low high b : ℕ) → (nat_le low b && nat_le b high) ≡ true → (low ≤ b) × (b ≤ high)
within low high b test =
    let parts = and_parts (nat_le low b) (nat_le b high) test in
    (leb-true low b parts.0, leb-true b high parts.1)

name_byte : (b : ℕ) → is_name_byte b ≡ true → IsWordByte b
name_byte b test = elim (or_cases ((nat_le 97 b && nat_le b 122) || (nat_le 48 b && nat_le b 57) || (b == 95)) (b == 46) test) [
  | inl more ↦ elim (or_cases ((nat_le 97 b && nat_le b 122) || (nat_le 48 b && nat_le b 57)) (b == 95) more) [
    | inl other ↦ elim (or_cases (nat_le 97 b && nat_le b 122) (nat_le 48 b && nat_le b 57) other) [
      | inl letter ↦ let is = within 97 122 b letter in omega arith
      | inr digit ↦ let is = within 48 57 b digit in omega arith
    ]
    | inr line ↦ let is = eqb-true b 95 line in omega arith
  ]
  | inr dot ↦ let is = eqb-true b 46 dot in omega arith
]

name_bytes : (name : List ℕ) → list_all is_name_byte name ≡ true → AllByRecursion IsWordByte name
name_bytes [] all = tt
name_bytes (b ∷ bs) all =
    let parts = and_parts (is_name_byte b) (list_all is_name_byte bs) all in
    (name_byte b parts.0, name_bytes bs parts.1)

pub name_word : (name : Name) → IsName name → IsWord name
name_word name is =
    let parts = and_parts (nat_le 1 (length name) && nat_le (length name) 24) (list_all is_name_byte name) is in
    let long = within 1 24 (length name) parts.0 in
    record { some = long.0; plain = name_bytes name parts.1 }

-- what holds of each of some numbers holds of any one of them
pub any_holds : (P : ℕ → Type 0) (numbers : List ℕ) (n : ℕ) → AllByRecursion P numbers → IsAnyOf numbers n → P n
any_holds P [] n all is = absurd (false≢true is)
any_holds P (m ∷ ms) n all is = elim (or_cases (m == n) (list_any (λ m. m == n) ms) is) [
  | inl this ↦ subst P (eqb-true m n this) all.0
  | inr other ↦ any_holds P ms n all.1 other
]

-- a letter below 128 is its own text
pub one_byte : (l : ℕ) → l < 128 → letter_text l ≡ l ∷ []
unfolding encode_utf8
one_byte l small = rw (lt-ltb l 128 small) refl

pub letter_is : (letters : List ℕ) (l : ℕ) → AllByRecursion (λ m. m < 128) letters → IsAnyOf letters l → letter_text l ≡ l ∷ []
letter_is letters l all is = one_byte l (any_holds (λ m. m < 128) letters l all is)

pub access_letter_is : (l : ℕ) → IsAnyOf access_letters l → letter_text l ≡ l ∷ []
access_letter_is l is = letter_is access_letters l (omega arith) is

pub mode_letter_is : (l : ℕ) → IsAnyOf mode_letters l → letter_text l ≡ l ∷ []
mode_letter_is l is = letter_is mode_letters l (omega arith) is

letter_word : (letters : List ℕ) (l : ℕ) → AllByRecursion IsWordByte letters → letter_text l ≡ l ∷ [] → IsAnyOf letters l → IsWord (letter_text l)
letter_word letters l all same is = subst IsWord (sym same) (record { some = omega arith; plain = (any_holds IsWordByte letters l all is, tt) })

-- each kind of an access has one of the letters, and each mode that handles traps

pub kind_letter : (k : AccessKind) → IsAnyOf access_letters (letter_of_kind k)
kind_letter Load = refl
kind_letter Store = refl
kind_letter Lr = refl
kind_letter Sc = refl
kind_letter Amo = refl

pub mode_letter : (m : Mode) → m ≢ U → IsAnyOf mode_letters (letter_of_mode m)
mode_letter U other = absurd (other refl)
mode_letter S other = refl
mode_letter M other = refl

pub access_letter_word : (k : AccessKind) → IsWord (letter_text (letter_of_kind k))
access_letter_word k =
    let is = kind_letter k in
    letter_word access_letters (letter_of_kind k) (omega arith) (access_letter_is (letter_of_kind k) is) is

pub mode_letter_word : (m : Mode) → m ≢ U → IsWord (letter_text (letter_of_mode m))
mode_letter_word m other =
    let is = mode_letter m other in
    letter_word mode_letters (letter_of_mode m) (omega arith) (mode_letter_is (letter_of_mode m) is) is

-- what a word doesn't have, and isn't

pub word_lacks : (byte : ℕ) → ((b : ℕ) → IsWordByte b → b ≢ byte) → (text : List ℕ) → IsWord text → Lacks byte text
word_lacks byte other text word = lacks IsWordByte byte other text word.plain

-- a text that begins with a word says that there is something
pub word_is_something : (first rest : List ℕ) → IsWord first → first ++ rest ≡ none_text → ⊥
word_is_something [] rest word is = omega (arith, word.some)
word_is_something (b ∷ bs) rest word is =
    let same : b ≡ 0x2d = ap (λ (l : List ℕ). get_or l 0 0) is in
    omega (arith, word.plain.0.above)

-- the bytes of fields
abbrev pub IsVisible : List ℕ → Type 0
IsVisible text = AllByRecursion (λ b. 0x20 < b) text

pub word_visible : (text : List ℕ) → IsWord text → IsVisible text
word_visible text word = all_weaken IsWordByte (λ b. 0x20 < b) (λ b is. omega (arith, is.above)) text word.plain

pub joined_visible : (byte : ℕ) (parts : List (List ℕ)) → 0x20 < byte → AllByRecursion IsVisible parts → IsVisible (joined_by byte parts)
joined_visible byte parts between all = joined_all (λ b. 0x20 < b) byte parts between all

pub or_none_visible : {A : Type 0} (text : A → List ℕ) (Fits : A → Type 0) → ((a : A) → Fits a → IsVisible (text a))
    → (o : Option A) → IfSome o Fits → IsVisible (or_none text o)
or_none_visible text Fits visible None fits = (omega arith, tt)
or_none_visible text Fits visible (Some a) fits = visible a fits

-- what is there is in its ranges where it is
pub there_fits : {A : Type 0} (Fits : A → Type 0) (o : Option A) → MatchOption o ⊥ Fits → IfSome o Fits
there_fits Fits None there = absurd there
there_fits Fits (Some a) there = there
