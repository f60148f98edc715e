-- Pieces of memory that are laid out one behind another, and the bytes of pieces that aren't.
use Rattle.std.proofs.Common.{ℕ, ◌+◌, ◌-◌, ◌<◌, ◌≤◌, ◌≡◌, ◌⊎◌, List, [], ◌∷◌, ◌++◌, length, replicate, get_or, Some, None, refl, sym, ap, ◌∙◌, arith, inl, inr, length-append}
use Rattle.std.specs.Prelude.{unwrap_or}
use Rattle.std.specs.Option.{option_or}
use Rattle.std.proofs.lemmas.List.{get_or_append_left, get_or-replicate, length-replicate, get_or-append_right}
use Rattle.std.proofs.lemmas.Bool.{cases_lt}
use Rattle.std.proofs.lemmas.Bool.Decides.{nat_tests}
use Rattle.rv_fields.proofs.Options.{or_assoc, or_none}
use Rattle.ram_image.specs.Pieces.{Piece, piece_byte, byte_in, filled, laid}
use Rattle.ram_image.specs.Segments.{Stretch, stretch_byte, memory_of}

-- the pieces lie in rising order, from one address up to another
abbrev pub AreLaid : ℕ → List Piece → ℕ → Type 0
AreLaid from [] to = from ≤ to
AreLaid from (p ∷ ps) to = (from ≤ p.at) × AreLaid (p.at + length p.bytes) ps to

-- no piece lies below the address
abbrev pub LieFrom : ℕ → List Piece → Type 0
LieFrom from ps = (a : ℕ) → a < from → byte_in ps a ≡ None

pub piece_outside : (p : Piece) (a : ℕ) → (a < p.at) ⊎ (p.at + length p.bytes ≤ a) → piece_byte p a ≡ None
piece_outside p a (inl h) = grind (arith, nat_tests)
piece_outside p a (inr h) = grind (arith, nat_tests)

pub piece_inside : (p : Piece) (a : ℕ) → p.at ≤ a → a < p.at + length p.bytes → piece_byte p a ≡ Some (get_or p.bytes (a - p.at) 0)
piece_inside p a h k = grind (arith, nat_tests)

pub stretch_outside : (s : Stretch) (a : ℕ) → (a < s.at) ⊎ (s.at + s.size ≤ a) → stretch_byte s a ≡ None
stretch_outside s a (inl h) = grind (arith, nat_tests)
stretch_outside s a (inr h) = grind (arith, nat_tests)

pub stretch_inside : (s : Stretch) (a : ℕ) → s.at ≤ a → a < s.at + s.size → stretch_byte s a ≡ Some (get_or s.bytes (a - s.at) 0)
stretch_inside s a h k = grind (arith, nat_tests)

-- ---- pieces that are laid out

pub none_below : (from : ℕ) (ps : List Piece) (to : ℕ) → AreLaid from ps to → LieFrom from ps
none_below from [] to laid a below = refl
none_below from (p ∷ ps) to laid a below =
    let here : piece_byte p a ≡ None = piece_outside p a (inl (omega arith)) in
    let there : byte_in ps a ≡ None = none_below (p.at + length p.bytes) ps to laid.1 a (omega arith) in
    rw here there

pub laid_le : (from : ℕ) (ps : List Piece) (to : ℕ) → AreLaid from ps to → from ≤ to
laid_le from [] to h = h
laid_le from (p ∷ ps) to h = let k : p.at + length p.bytes ≤ to = laid_le (p.at + length p.bytes) ps to h.1 in omega arith

pub none_above : (from : ℕ) (ps : List Piece) (to a : ℕ) → AreLaid from ps to → to ≤ a → byte_in ps a ≡ None
none_above from [] to a laid above = refl
none_above from (p ∷ ps) to a laid above =
    let end : p.at + length p.bytes ≤ to = laid_le (p.at + length p.bytes) ps to laid.1 in
    let here : piece_byte p a ≡ None = piece_outside p a (inr (omega arith)) in
    let there : byte_in ps a ≡ None = none_above (p.at + length p.bytes) ps to a laid.1 above in
    rw here there

-- pieces between two addresses lie between lower and higher ones
pub laid_within : (from from' : ℕ) (ps : List Piece) (to to' : ℕ) → AreLaid from ps to → from' ≤ from → to ≤ to' → AreLaid from' ps to'
laid_within from from' [] to to' h low high = omega arith
laid_within from from' (p ∷ ps) to to' h low high =
    (omega (arith, h.0), laid_within (p.at + length p.bytes) (p.at + length p.bytes) ps to to' h.1 (omega arith) high)

-- pieces behind pieces
pub laid-append : (from : ℕ) (ps : List Piece) (mid : ℕ) (qs : List Piece) (to : ℕ) → AreLaid from ps mid → AreLaid mid qs to → AreLaid from (ps ++ qs) to
laid-append from [] mid qs to h k = laid_within mid from qs to to k h (omega arith)
laid-append from (p ∷ ps) mid qs to h k = (h.0, laid-append (p.at + length p.bytes) ps mid qs to h.1 k)

-- ---- their bytes, one after another

-- behind zeros, and behind a list
past_zeros : (n : ℕ) (ys : List ℕ) (i : ℕ) → n ≤ i → get_or (replicate n 0 ++ ys) i 0 ≡ get_or ys (i - n) 0
past_zeros n ys i h = get_or-append_right (replicate n 0) ys n i 0 (length-replicate n 0) h

past_bytes : (xs ys : List ℕ) (i : ℕ) → length xs ≤ i → get_or (xs ++ ys) i 0 ≡ get_or ys (i - length xs) 0
past_bytes xs ys i h = get_or-append_right xs ys (length xs) i 0 refl h

in_zeros : (n : ℕ) (ys : List ℕ) (i : ℕ) → i < n → get_or (replicate n 0 ++ ys) i 0 ≡ 0
in_zeros n ys i h =
    let short : i < length (replicate n 0) = omega (arith, length-replicate {A = ℕ} n 0) in
    get_or_append_left (replicate n 0) ys 0 i short ∙ get_or-replicate n i 0 0 h

-- what is laid out is the bytes of the pieces, and zeros between them
laid_at : (from : ℕ) (ps : List Piece) (to a : ℕ) → AreLaid from ps to → from ≤ a → get_or (laid from ps) (a - from) 0 ≡ filled ps a
laid_at from [] to a h le = refl
laid_at from (p ∷ ps) to a h le = elim (cases_lt a p.at) [ inl before ↦ gap before | inr behind ↦ elim (cases_lt a (p.at + length p.bytes)) [ inl inside ↦ within behind inside | inr past ↦ beyond past (laid_at (p.at + length p.bytes) ps to a h.1 past) ] ]
  where
    rest : List ℕ
    rest = laid (p.at + length p.bytes) ps

    gap : a < p.at → get_or (replicate (p.at - from) 0 ++ (p.bytes ++ rest)) (a - from) 0 ≡ unwrap_or (option_or (piece_byte p a) (byte_in ps a)) 0
    gap before =
        let here : piece_byte p a ≡ None = piece_outside p a (inl before) in
        let there : byte_in ps a ≡ None = none_below (p.at + length p.bytes) ps to h.1 a (omega arith) in
        let zero : get_or (replicate (p.at - from) 0 ++ (p.bytes ++ rest)) (a - from) 0 ≡ 0 = in_zeros (p.at - from) (p.bytes ++ rest) (a - from) (omega (arith, h.0)) in
        zero ∙ sym (ap (λ o. unwrap_or (option_or o (byte_in ps a)) 0) here ∙ ap (λ o. unwrap_or o 0) there)

    skipped : p.at ≤ a → get_or (replicate (p.at - from) 0 ++ (p.bytes ++ rest)) (a - from) 0 ≡ get_or (p.bytes ++ rest) (a - p.at) 0
    skipped behind =
        past_zeros (p.at - from) (p.bytes ++ rest) (a - from) (omega (arith, h.0))
        ∙ ap (λ i. get_or (p.bytes ++ rest) i 0) (omega (arith, h.0))

    within : p.at ≤ a → a < p.at + length p.bytes → get_or (replicate (p.at - from) 0 ++ (p.bytes ++ rest)) (a - from) 0 ≡ unwrap_or (option_or (piece_byte p a) (byte_in ps a)) 0
    within behind inside =
        skipped behind
        ∙ get_or_append_left p.bytes rest 0 (a - p.at) (omega arith)
        ∙ sym (ap (λ o. unwrap_or (option_or o (byte_in ps a)) 0) (piece_inside p a behind inside))

    beyond : p.at + length p.bytes ≤ a → get_or (laid (p.at + length p.bytes) ps) (a - (p.at + length p.bytes)) 0 ≡ filled ps a
        → get_or (replicate (p.at - from) 0 ++ (p.bytes ++ rest)) (a - from) 0 ≡ unwrap_or (option_or (piece_byte p a) (byte_in ps a)) 0
    beyond past more =
        skipped (omega arith)
        ∙ past_bytes p.bytes rest (a - p.at) (omega arith)
        ∙ ap (λ i. get_or rest i 0) (omega arith)
        ∙ more
        ∙ sym (ap (λ o. unwrap_or (option_or o (byte_in ps a)) 0) (piece_outside p a (inr past)))

-- they reach no further than the pieces
pub length-laid : (from : ℕ) (ps : List Piece) (to : ℕ) → AreLaid from ps to → from + length (laid from ps) ≤ to
length-laid from [] to h = omega arith
length-laid from (p ∷ ps) to h =
    let rest : List ℕ = laid (p.at + length p.bytes) ps in
    let zeros : List ℕ = replicate (p.at - from) 0 in
    omega (arith, h.0, length-laid (p.at + length p.bytes) ps to h.1, length-append zeros (p.bytes ++ rest), length-append p.bytes rest, length-replicate {A = ℕ} (p.at - from) 0)

-- ---- pieces behind pieces

pub byte_in-append : (ps qs : List Piece) (a : ℕ) → byte_in (ps ++ qs) a ≡ option_or (byte_in ps a) (byte_in qs a)
byte_in-append [] qs a = refl
byte_in-append (p ∷ ps) qs a = ap (option_or (piece_byte p a)) (byte_in-append ps qs a) ∙ or_assoc (piece_byte p a) (byte_in ps a) (byte_in qs a)

-- the first pieces that have a byte there count
pub byte_before : (ps qs : List Piece) (a b : ℕ) → byte_in ps a ≡ Some b → byte_in (ps ++ qs) a ≡ Some b
byte_before ps qs a b e = byte_in-append ps qs a ∙ ap (λ o. option_or o (byte_in qs a)) e

-- where pieces behind others have a byte, they alone do
pub byte_behind : (from : ℕ) (ps : List Piece) (mid : ℕ) (qs : List Piece) (a b : ℕ)
    → AreLaid from ps mid → LieFrom mid qs → byte_in qs a ≡ Some b → byte_in (ps ++ qs) a ≡ Some b
byte_behind from ps mid qs a b h k e = elim (cases_lt a mid) [
  | inl before ↦ absurd (let none : byte_in qs a ≡ None = k a before in cc)
  | inr behind ↦ byte_in-append ps qs a ∙ ap (λ o. option_or o (byte_in qs a)) (none_above from ps mid a h behind) ∙ e
]

pub lie_append : (from : ℕ) (ps qs : List Piece) → LieFrom from ps → LieFrom from qs → LieFrom from (ps ++ qs)
lie_append from ps qs h k = λ a below. byte_in-append ps qs a ∙ ap (λ o. option_or o (byte_in qs a)) (h a below) ∙ k a below

pub lie_within : (from from' : ℕ) (ps : List Piece) → LieFrom from ps → from' ≤ from → LieFrom from' ps
lie_within from from' ps h low = λ a below. h a (omega arith)

-- ---- a segment that holds pieces, before others

pub memory_joins : (at size flags : ℕ) (ps : List Piece) (ss : List Stretch) (qs : List Piece) (a : ℕ)
    → AreLaid at ps (at + size) → LieFrom (at + size) qs → memory_of ss a ≡ filled qs a
    → memory_of (record { at = at; bytes = laid at ps; size = size; flags = flags } ∷ ss) a ≡ filled (ps ++ qs) a
memory_joins at size flags ps ss qs a h k e = elim (cases_lt a at) [
  | inl before ↦ outside (inl before)
  | inr behind ↦ elim (cases_lt a (at + size)) [ inl inside ↦ within behind inside | inr past ↦ outside (inr past) ]
]
  where
    s : Stretch
    s = record { at = at; bytes = laid at ps; size = size; flags = flags }

    none_of : (a < at) ⊎ (at + size ≤ a) → byte_in ps a ≡ None
    none_of (inl before) = none_below at ps (at + size) h a before
    none_of (inr past) = none_above at ps (at + size) a h past

    outside : (a < at) ⊎ (at + size ≤ a) → memory_of (s ∷ ss) a ≡ filled (ps ++ qs) a
    outside o = ap (λ b. unwrap_or b (memory_of ss a)) (stretch_outside s a o) ∙ e
        ∙ sym (ap (λ b. unwrap_or b 0) (byte_in-append ps qs a ∙ ap (λ b. option_or b (byte_in qs a)) (none_of o)))

    within : at ≤ a → a < at + size → memory_of (s ∷ ss) a ≡ filled (ps ++ qs) a
    within behind inside =
        let there : byte_in qs a ≡ None = k a inside in
        ap (λ b. unwrap_or b (memory_of ss a)) (stretch_inside s a behind inside) ∙ laid_at at ps (at + size) a h behind
        ∙ sym (ap (λ b. unwrap_or b 0) (byte_in-append ps qs a ∙ ap (option_or (byte_in ps a)) there ∙ or_none (byte_in ps a)))
