-- Bytes without the zeros at their end are the same bytes at each place.
use Rattle.std.proofs.Common.{◌≡◌, ℕ, zero, suc, ◌+◌, ◌-◌, ◌<◌, ◌≤◌, eqb, ◌&&◌, List, [], ◌∷◌, ◌++◌, length, get_or, take, refl, sym, ap, ◌∙◌, arith}
use Rattle.std.proofs.lemmas.Bool.{eqb-true, and_parts, and_left, and_right, ne_eqb, cond_both, cond-false}
use Rattle.std.proofs.lemmas.List.{nil_from_length, length-append, take_more, take_all}
use Rattle.elf_file.specs.Writing.{before_rest, trimmed}

byte_of_zeros : (b : ℕ) (bs : List ℕ) (i : ℕ) → 0 ≡ b → ((k : ℕ) → 0 ≡ get_or bs k 0) → 0 ≡ get_or (b ∷ bs) i 0
byte_of_zeros b bs zero is zeros = is
byte_of_zeros b bs (suc i) is zeros = zeros i

byte_behind : (b : ℕ) (kept bs : List ℕ) (i : ℕ) → ((k : ℕ) → get_or kept k 0 ≡ get_or bs k 0) → get_or (b ∷ kept) i 0 ≡ get_or (b ∷ bs) i 0
byte_behind b kept bs zero same = refl
byte_behind b kept bs (suc i) same = same i

-- a byte and what is left of the bytes behind it, as a byte and those bytes
byte_before : (b : ℕ) (kept bs : List ℕ) (i : ℕ) → ((k : ℕ) → get_or kept k 0 ≡ get_or bs k 0) → get_or (before_rest b kept) i 0 ≡ get_or (b ∷ bs) i 0
byte_before b kept bs i same =
    cond_both (eqb b 0 && eqb (length kept) 0) [] (b ∷ kept) (λ xs. get_or xs i 0 ≡ get_or (b ∷ bs) i 0)
    (λ e.
    let both = and_parts (eqb b 0) (eqb (length kept) 0) e in
    let nothing : kept ≡ [] = nil_from_length kept (eqb-true (length kept) 0 both.1) in
    byte_of_zeros b bs i (sym (eqb-true b 0 both.0)) (λ k. sym (ap (λ (xs : List ℕ). get_or xs k 0) nothing) ∙ same k))
    (λ e. byte_behind b kept bs i same)

pub byte_of-trimmed : (bs : List ℕ) (i : ℕ) → get_or (trimmed bs) i 0 ≡ get_or bs i 0
byte_of-trimmed [] i = refl
byte_of-trimmed (b ∷ bs) i = byte_before b (trimmed bs) bs i (byte_of-trimmed bs)

length_before : (b : ℕ) (kept : List ℕ) → length (before_rest b kept) ≤ suc (length kept)
length_before b kept =
    cond_both (eqb b 0 && eqb (length kept) 0) [] (b ∷ kept) (λ xs. length xs ≤ suc (length kept)) (λ e. omega arith) (λ e. omega arith)

pub length-trimmed : (bs : List ℕ) → length (trimmed bs) ≤ length bs
length-trimmed [] = omega arith
length-trimmed (b ∷ bs) = omega (arith, length_before b (trimmed bs), length-trimmed bs)

-- ---- a trim from the end

pub trimmed-push_zero : (bs : List ℕ) → trimmed (bs ++ 0 ∷ []) ≡ trimmed bs
trimmed-push_zero [] = refl
trimmed-push_zero (b ∷ bs) = ap (before_rest b) (trimmed-push_zero bs)

before_some : (b : ℕ) (kept : List ℕ) → (length kept ≡ 0 → ⊥) → before_rest b kept ≡ b ∷ kept
before_some b kept some = cond-false (eqb b 0 && eqb (length kept) 0) [] (b ∷ kept) (and_right (eqb b 0) (eqb (length kept) 0) (ne_eqb (length kept) 0 some))

before_nonzero : (b : ℕ) (kept : List ℕ) → (b ≡ 0 → ⊥) → before_rest b kept ≡ b ∷ kept
before_nonzero b kept some = cond-false (eqb b 0 && eqb (length kept) 0) [] (b ∷ kept) (and_left (eqb b 0) (eqb (length kept) 0) (ne_eqb b 0 some))

pub trimmed-push : (bs : List ℕ) (last : ℕ) → (last ≡ 0 → ⊥) → trimmed (bs ++ last ∷ []) ≡ bs ++ last ∷ []
trimmed-push [] last some = before_nonzero last [] some
trimmed-push (b ∷ bs) last some =
    ap (before_rest b) (trimmed-push bs last some) ∙ before_some b (bs ++ last ∷ []) (λ none. absurd (omega (arith, length-append bs (last ∷ []), none)))

last_split : (bs : List ℕ) → 0 < length bs → take (length bs - 1) bs ++ get_or bs (length bs - 1) 0 ∷ [] ≡ bs
last_split bs some =
    let below : length bs - 1 < length bs = omega arith in
    sym (take_more bs (length bs - 1) 0 below) ∙ take_all (length bs - 1 + 1) bs (omega arith)

-- a last zero goes
pub trimmed-take : (bs : List ℕ) → 0 < length bs → get_or bs (length bs - 1) 0 ≡ 0 → trimmed (take (length bs - 1) bs) ≡ trimmed bs
trimmed-take bs some zeros =
    sym (trimmed-push_zero (take (length bs - 1) bs)) ∙ ap (λ b. trimmed (take (length bs - 1) bs ++ b ∷ [])) (sym zeros) ∙ ap trimmed (last_split bs some)

-- any other last byte stays
pub trimmed-fixed : (bs : List ℕ) → 0 < length bs → (get_or bs (length bs - 1) 0 ≡ 0 → ⊥) → trimmed bs ≡ bs
trimmed-fixed bs some last =
    sym (ap trimmed (last_split bs some)) ∙ trimmed-push (take (length bs - 1) bs) (get_or bs (length bs - 1) 0) last ∙ last_split bs some

pub ruleset trims = (trimmed-take, trimmed-fixed)
