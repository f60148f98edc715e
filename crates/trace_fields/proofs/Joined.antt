-- The text of some things of a list, and of one more.
use Rattle.std.proofs.Common.{◌≡◌, ℕ, ◌+◌, ◌-◌, ◌<◌, ◌≤◌, List, [], ◌∷◌, ◌++◌, length, get_or, take, drop, map, refl, sym, ap, ◌∙◌, arith, append_assoc}
use Rattle.std.specs.List.{flat_map}
use Rattle.std.proofs.lemmas.List.{take_more, take_rest, take_all, get_or-drop, flat_map_more, map_more, length-take, length-drop, length-map}
use Rattle.trace_fields.specs.Text.{joined_by}

pub one_more : {A : Type 0} (text : A → List ℕ) (xs : List A) (i : ℕ) (d : A) → i < length xs
    → flat_map text (take i xs) ++ text (get_or xs i d) ≡ flat_map text (take (i + 1) xs)
one_more text xs i d within = flat_map_more text [] (take i xs) (get_or xs i d) ∙ ap (flat_map text) (sym (take_more xs i d within))

-- one text more behind others
join_more : (byte : ℕ) (texts : List (List ℕ)) (text : List ℕ) → 0 < length texts
    → joined_by byte (texts ++ text ∷ []) ≡ joined_by byte texts ++ byte ∷ text
join_more byte [] text some = absurd (omega arith)
join_more byte (first ∷ []) text some = refl
join_more byte (first ∷ next ∷ texts) text some =
    ap (λ (l : List ℕ). first ++ byte ∷ l) (join_more byte (next ∷ texts) text (omega arith))
    ∙ sym (append_assoc first (byte ∷ joined_by byte (next ∷ texts)) (byte ∷ text))

-- the things of a list but the first
abbrev rest_of : {A : Type 0} → List A → List A
rest_of xs = take (length xs - 1) (drop 1 xs)

pub first_joined : {A : Type 0} (text : A → List ℕ) (byte : ℕ) (xs : List A) (x : A) → 1 ≤ length xs → x ≡ get_or xs 0 x
    → text x ≡ joined_by byte (map text (take 1 xs))
first_joined text byte xs x some is = ap text is ∙ ap (λ l. joined_by byte (map text l)) (sym (take_more xs 0 x some))

pub one_more_joined : {A : Type 0} (text : A → List ℕ) (byte : ℕ) (xs : List A) (i : ℕ) (x : A) → 1 ≤ length xs → i < length (rest_of xs)
    → x ≡ get_or (rest_of xs) i x
    → joined_by byte (map text (take (i + 1) xs)) ++ byte ∷ text x ≡ joined_by byte (map text (take (i + 1 + 1) xs))
one_more_joined text byte xs i x some within is =
    let inside : i + 1 < length xs = omega (arith, length-take (length xs - 1) (drop 1 xs), length-drop 1 xs) in
    let here : x ≡ get_or xs (i + 1) x = is ∙ ap (λ l. get_or l i x) (take_rest xs 1) ∙ get_or-drop 1 xs i x ∙ ap (λ k. get_or xs k x) (omega arith) in
    let behind : 0 < length (map text (take (i + 1) xs)) = omega (arith, length-map (take (i + 1) xs) text, length-take (i + 1) xs) in
    ap (λ (l : List ℕ). joined_by byte (map text (take (i + 1) xs)) ++ byte ∷ l) (ap text here)
    ∙ sym (join_more byte (map text (take (i + 1) xs)) (text (get_or xs (i + 1) x)) behind)
    ∙ ap (joined_by byte) (sym (map_more text xs (i + 1) x inside))

pub all_joined : {A : Type 0} (xs : List A) (i : ℕ) → 1 ≤ length xs → length (rest_of xs) ≤ i → take (i + 1) xs ≡ xs
all_joined xs i some past = take_all (i + 1) xs (omega (arith, length-take (length xs - 1) (drop 1 xs), length-drop 1 xs))
