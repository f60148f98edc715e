-- The words in the harts' windows: each made word stands at its place, and nothing else does.
use Rattle.std.proofs.Common.{ℕ, zero, suc, ◌+◌, ◌-◌, ◌*◌, ◌/◌, ◌%◌, ◌<◌, ◌≤◌, ◌≡◌, ◌⊎◌, List, [], ◌∷◌, length, map, get_or, Option, Some, None, refl, sym, ap, ◌∙◌, arith, inl, inr, length-append}
use Rattle.std.specs.Prelude.{slice_get, unwrap_or}
use Rattle.std.specs.Option.{option_or}
use Rattle.std.specs.List.{Contains}
use Rattle.std.specs.Int.{w32, to_le_bytes}
use Rattle.std.proofs.lemmas.List.{get_or_append_left, get_or-append_right, get_or_past}
use Rattle.std.proofs.lemmas.Bool.{cases_lt}
use Rattle.std.proofs.lemmas.Option.{slice_get_cases, slice_get_within}
use Rattle.rv_fields.specs.Effect.{Effect}
use Rattle.boot_words.specs.Layout.{code_start, code_address}
use Rattle.ram_image.specs.Pieces.{piece_byte, byte_in}
use Rattle.ram_image.specs.Segments.{Stretch, memory_of}
use Rattle.run_merge.specs.Image.{HartImage, code_stretches, effect_pa, effect_word, word_bytes, word_piece}
use Rattle.run_merge.proofs.Placed.{piece_inside, piece_outside, stretch_inside, stretch_outside}

-- ---- the bytes of words

-- four bytes a word
pub length-word_bytes : (words : List ℕ) → length (word_bytes words) ≡ 4 * length words
length-word_bytes [] = refl
length-word_bytes (w ∷ ws) = length-append (to_le_bytes w32 w) (word_bytes ws) ∙ omega (arith, length-word_bytes ws)

pub word_byte : (words : List ℕ) (index word j : ℕ) → slice_get words index ≡ Some word → j < 4
    → get_or (word_bytes words) (4 * index + j) 0 ≡ get_or (to_le_bytes w32 word) j 0
word_byte [] index word j is small = absurd cc
word_byte (w ∷ ws) zero word j is small =
    let first : 4 * 0 + j ≡ j = omega arith in
    let same : w ≡ word = cc in
    ap (λ i. get_or (word_bytes (w ∷ ws)) i 0) first ∙ get_or_append_left (to_le_bytes w32 w) (word_bytes ws) 0 j small ∙ ap (λ v. get_or (to_le_bytes w32 v) j 0) same
word_byte (w ∷ ws) (suc index) word j is small =
    let behind : 4 * suc index + j - 4 ≡ 4 * index + j = omega arith in
    get_or-append_right (to_le_bytes w32 w) (word_bytes ws) 4 (4 * suc index + j) 0 refl (omega arith)
    ∙ ap (λ i. get_or (word_bytes ws) i 0) behind ∙ word_byte ws index word j is small

-- ---- the pieces of made words

-- the byte is one of a made word at the address
pub record IsOfWord (es : List Effect) (a b : ℕ) : Type 0 where
  pub effect : Effect
  pub among : Contains es effect
  pub place : ℕ
  pub small : place < 4
  pub at : a ≡ effect_pa effect + place
  pub byte : b ≡ get_or (to_le_bytes w32 (effect_word effect)) place 0

contains_behind : (e d : Effect) (es : List Effect) → Contains es d → Contains (e ∷ es) d
contains_behind e d es c = (suc c.0, omega (arith, c.1), c.2)

of_word_behind : (e : Effect) (es : List Effect) (a b : ℕ) → IsOfWord es a b → IsOfWord (e ∷ es) a b
of_word_behind e es a b is = record { effect = is.effect; among = contains_behind e is.effect es is.among; place = is.place; small = is.small; at = is.at; byte = is.byte }

pub of_word : (es : List Effect) (a b : ℕ) → byte_in (map word_piece es) a ≡ Some b → IsOfWord es a b
of_word [] a b is = absurd cc
of_word (e ∷ es) a b is = elim (cases_lt a (effect_pa e)) [
  | inl below ↦ behind (of_word es a b) (inl below)
  | inr from ↦ elim (cases_lt a (effect_pa e + 4)) [ inl inside ↦ here from inside | inr past ↦ behind (of_word es a b) (inr past) ]
]
  where
    behind : (byte_in (map word_piece es) a ≡ Some b → IsOfWord es a b) → (a < effect_pa e) ⊎ (effect_pa e + 4 ≤ a) → IsOfWord (e ∷ es) a b
    behind more o = of_word_behind e es a b (more (sym (ap (λ o. option_or o (byte_in (map word_piece es) a)) (piece_outside (word_piece e) a o)) ∙ is))

    here : effect_pa e ≤ a → a < effect_pa e + 4 → IsOfWord (e ∷ es) a b
    here from inside =
        let some : piece_byte (word_piece e) a ≡ Some (get_or (to_le_bytes w32 (effect_word e)) (a - effect_pa e) 0) = piece_inside (word_piece e) a from inside in
        let same : Some b ≡ Some (get_or (to_le_bytes w32 (effect_word e)) (a - effect_pa e) 0) = sym is ∙ ap (λ o. option_or o (byte_in (map word_piece es) a)) some in
        record { effect = e; among = (0, omega arith, refl); place = a - effect_pa e; small = omega arith; at = omega arith; byte = cc }

none_of_either : (o r : Option ℕ) → option_or o r ≡ None → (o ≡ None) × (r ≡ None)
none_of_either None r is = (refl, is)
none_of_either (Some b) r is = absurd cc

-- a made word has bytes in the pieces
pub in_pieces : (es : List Effect) (e : Effect) (j a : ℕ) → Contains es e → j < 4 → a ≡ effect_pa e + j → byte_in (map word_piece es) a ≡ None → ⊥
in_pieces [] e j a c small at none = absurd (omega (arith, c.1))
in_pieces (d ∷ es) e j a c small at none = among (λ k. in_pieces es e j a k small at nothing.1) c.0 c.1 c.2
  where
    nothing : (piece_byte (word_piece d) a ≡ None) × (byte_in (map word_piece es) a ≡ None)
    nothing = none_of_either (piece_byte (word_piece d) a) (byte_in (map word_piece es) a) none

    among : (Contains es e → ⊥) → (k : ℕ) → k < length (d ∷ es) → get_or (d ∷ es) k e ≡ e → ⊥
    among more zero within is =
        let place : effect_pa d ≡ effect_pa e = ap effect_pa is in
        let some : piece_byte (word_piece d) a ≡ Some (get_or (to_le_bytes w32 (effect_word d)) (a - effect_pa d) 0) = piece_inside (word_piece d) a (omega arith) (omega arith) in
        absurd (let none_here : piece_byte (word_piece d) a ≡ None = nothing.0 in cc)
    among more (suc k) within is = more (k, omega arith, is)

-- ---- the windows' stretches

-- no window has more words than its page holds
abbrev pub HaveRoom : List HartImage → Type 0
HaveRoom is = (k : ℕ) (i : HartImage) → slice_get is k ≡ Some i → length i.words ≤ 1024

-- a byte of a word in a window
pub window_word : (h : ℕ) (is : List HartImage) (k index word j a : ℕ) (i : HartImage) → HaveRoom is → slice_get is k ≡ Some i
    → slice_get i.words index ≡ Some word → j < 4 → a ≡ code_address (h + k) index + j
    → memory_of (code_stretches h is) a ≡ get_or (to_le_bytes w32 word) j 0
window_word h [] k index word j a i room is has small at = absurd cc
window_word h (x ∷ xs) zero index word j a i room is has small at =
    let same : x ≡ i = cc in
    let here : slice_get x.words index ≡ Some word = ap (λ (t : HartImage). slice_get t.words index) same ∙ has in
    let fits : index < 1024 = omega (arith, room 0 x refl, slice_get_within x.words index word here) in
    let s : Stretch = record { at = code_start h; bytes = word_bytes x.words; size = 0x1000; flags = 5 } in
    let place : a - code_start h ≡ 4 * index + j = omega arith in
    ap (λ b. unwrap_or b (memory_of (code_stretches (h + 1) xs) a)) (stretch_inside s a (omega arith) (omega arith))
    ∙ ap (λ n. get_or (word_bytes x.words) n 0) place ∙ word_byte x.words index word j here small
window_word h (x ∷ xs) (suc k) index word j a i room is has small at =
    let s : Stretch = record { at = code_start h; bytes = word_bytes x.words; size = 0x1000; flags = 5 } in
    ap (λ b. unwrap_or b (memory_of (code_stretches (h + 1) xs) a)) (stretch_outside s a (inr (omega arith)))
    ∙ window_word (h + 1) xs k index word j a i (λ n. room (suc n)) is has small (omega arith)

-- the address is in no word of a window
abbrev pub IsBesideWords : ℕ → List HartImage → ℕ → Type 0
IsBesideWords h is a = (k index word : ℕ) (i : HartImage) → slice_get is k ≡ Some i → slice_get i.words index ≡ Some word
    → (j : ℕ) → j < 4 → a ≡ code_address (h + k) index + j → ⊥

pub window_none : (h : ℕ) (is : List HartImage) (a : ℕ) → IsBesideWords h is a → memory_of (code_stretches h is) a ≡ 0
window_none h [] a beside = refl
window_none h (x ∷ xs) a beside = elim (cases_lt a (code_start h)) [
  | inl below ↦ outside (window_none (h + 1) xs a) (inl below)
  | inr from ↦ elim (cases_lt a (code_start h + 0x1000)) [ inl inside ↦ within from inside | inr past ↦ outside (window_none (h + 1) xs a) (inr past) ]
]
  where
    s : Stretch
    s = record { at = code_start h; bytes = word_bytes x.words; size = 0x1000; flags = 5 }

    outside : (IsBesideWords (h + 1) xs a → memory_of (code_stretches (h + 1) xs) a ≡ 0) → (a < code_start h) ⊎ (code_start h + 0x1000 ≤ a)
        → memory_of (code_stretches h (x ∷ xs)) a ≡ 0
    outside more o = ap (λ b. unwrap_or b (memory_of (code_stretches (h + 1) xs) a)) (stretch_outside s a o)
        ∙ more (λ k index word i is has j small at. beside (suc k) index word i is has j small (omega arith))

    within : code_start h ≤ a → a < code_start h + 0x1000 → memory_of (code_stretches h (x ∷ xs)) a ≡ 0
    within from inside =
        ap (λ b. unwrap_or b (memory_of (code_stretches (h + 1) xs) a)) (stretch_inside s a from inside)
        ∙ (elim (slice_get_cases x.words ((a - code_start h) / 4)).1 [
          | inl some ↦ absurd (beside 0 ((a - code_start h) / 4) some.0 x refl some.2 ((a - code_start h) % 4) (omega arith) (omega arith))
          | inr past ↦ get_or_past (word_bytes x.words) (a - code_start h) 0 (omega (arith, past.0, length-word_bytes x.words))
        ])
