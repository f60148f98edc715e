-- The words of a command line as the program holds them.
use Rattle.std.proofs.Common.{ℕ, ◌≡◌, ◌≢◌, ◌<◌, ◌≤◌, refl, arith, List, [], ◌∷◌, length, get_or, map, Bool, true, false, Some, None, Bor}
use Rattle.std.specs.Prelude.{◌&&◌, ◌||◌, not}
use Rattle.std.specs.Str.{bytes_eq}
use Rattle.std.proofs.lemmas.Slice.Eq.{bytes_eq-Decides}
use Rattle.std.specs.List.{list_any}
use Rattle.std.proofs.lemmas.Bool.{and_parts}
use Rattle.forge.specs.Words.{making_of, replaying_of, seed_of, are_files, is_option}
use Rattle.rv_fields.specs.Name.{are_different}

-- a test of what references point to
pub any_seen : (p : List ℕ → Bool) (words : List (Bor (List ℕ))) → list_any p (map (λ word. word.now) words) ≡ list_any (λ word. p word.now) words
any_seen p [] = refl
any_seen p (w ∷ ws) = rw (any_seen p ws) refl

-- a list of six items
pub six : {A : Type 0} (xs : List A) (a b c d e f : A) → 6 ≤ length xs → length xs < 7
    → a ≡ get_or xs 0 a → b ≡ get_or xs 1 b → c ≡ get_or xs 2 c → d ≡ get_or xs 3 d → e ≡ get_or xs 4 e → f ≡ get_or xs 5 f
    → xs ≡ a ∷ b ∷ c ∷ d ∷ e ∷ f ∷ []
six [] a b c d e f low high ha hb hc hd he hf = absurd (omega arith)
six (x ∷ []) a b c d e f low high ha hb hc hd he hf = absurd (omega arith)
six (x ∷ y ∷ []) a b c d e f low high ha hb hc hd he hf = absurd (omega arith)
six (x ∷ y ∷ z ∷ []) a b c d e f low high ha hb hc hd he hf = absurd (omega arith)
six (x ∷ y ∷ z ∷ u ∷ []) a b c d e f low high ha hb hc hd he hf = absurd (omega arith)
six (x ∷ y ∷ z ∷ u ∷ v ∷ []) a b c d e f low high ha hb hc hd he hf = absurd (omega arith)
six (x ∷ y ∷ z ∷ u ∷ v ∷ w ∷ []) a b c d e f low high ha hb hc hd he hf = cc
six (x ∷ y ∷ z ∷ u ∷ v ∷ w ∷ s ∷ r) a b c d e f low high ha hb hc hd he hf = absurd (omega arith)

-- words with a seed ask for this, where the others are files
pub is_making : (words : List (List ℕ)) (job trees word elf order trace : List ℕ) (seed : ℕ)
    → words ≡ job ∷ trees ∷ word ∷ elf ∷ order ∷ trace ∷ [] → Some seed ≡ seed_of word
    → are_files (job ∷ trees ∷ elf ∷ order ∷ trace ∷ []) ≡ true
    → making_of words ≡ Some (record { job = job; trees = trees; seed = seed; elf = elf; order = order; trace = trace })
is_making words job trees word elf order trace seed e s h = rw (e, ← s, h) refl

pub is_no_making : (words : List (List ℕ)) (job trees word elf order trace : List ℕ) (seed : ℕ)
    → words ≡ job ∷ trees ∷ word ∷ elf ∷ order ∷ trace ∷ [] → Some seed ≡ seed_of word
    → are_files (job ∷ trees ∷ elf ∷ order ∷ trace ∷ []) ≡ false
    → making_of words ≡ None
is_no_making words job trees word elf order trace seed e s h = rw (e, ← s, h) refl

pub too_few : {A : Type 0} (f : A → List ℕ) (xs : List A) → length xs < 6 → making_of (map f xs) ≡ None
too_few f [] few = refl
too_few f (x ∷ []) few = refl
too_few f (x ∷ y ∷ []) few = refl
too_few f (x ∷ y ∷ z ∷ []) few = refl
too_few f (x ∷ y ∷ z ∷ u ∷ []) few = refl
too_few f (x ∷ y ∷ z ∷ u ∷ v ∷ []) few = refl
too_few f (x ∷ y ∷ z ∷ u ∷ v ∷ w ∷ r) few = absurd (omega arith)

pub too_many : {A : Type 0} (f : A → List ℕ) (xs : List A) → 7 ≤ length xs → making_of (map f xs) ≡ None
too_many f [] many = absurd (omega arith)
too_many f (x ∷ []) many = absurd (omega arith)
too_many f (x ∷ y ∷ []) many = absurd (omega arith)
too_many f (x ∷ y ∷ z ∷ []) many = absurd (omega arith)
too_many f (x ∷ y ∷ z ∷ u ∷ []) many = absurd (omega arith)
too_many f (x ∷ y ∷ z ∷ u ∷ v ∷ []) many = absurd (omega arith)
too_many f (x ∷ y ∷ z ∷ u ∷ v ∷ w ∷ []) many = absurd (omega arith)
too_many f (x ∷ y ∷ z ∷ u ∷ v ∷ w ∷ s ∷ r) many = refl

-- a list of three items
pub three : {A : Type 0} (xs : List A) (a b c : A) → 3 ≤ length xs → length xs < 4 → a ≡ get_or xs 0 a → b ≡ get_or xs 1 b → c ≡ get_or xs 2 c
    → xs ≡ a ∷ b ∷ c ∷ []
three [] a b c low high ha hb hc = absurd (omega arith)
three (x ∷ []) a b c low high ha hb hc = absurd (omega arith)
three (x ∷ y ∷ []) a b c low high ha hb hc = absurd (omega arith)
three (x ∷ y ∷ z ∷ []) a b c low high ha hb hc = cc
three (x ∷ y ∷ z ∷ u ∷ r) a b c low high ha hb hc = absurd (omega arith)

-- three words ask for this, where they are files
pub is_replaying : (words : List (List ℕ)) (elf order trace : List ℕ) → words ≡ elf ∷ order ∷ trace ∷ [] → are_files (elf ∷ order ∷ trace ∷ []) ≡ true
    → replaying_of words ≡ Some (record { elf = elf; order = order; trace = trace })
is_replaying words elf order trace e h = rw (e, h) refl

pub is_no_replaying : (words : List (List ℕ)) (elf order trace : List ℕ) → words ≡ elf ∷ order ∷ trace ∷ [] → are_files (elf ∷ order ∷ trace ∷ []) ≡ false
    → replaying_of words ≡ None
is_no_replaying words elf order trace e h = rw (e, h) refl

pub fewer : {A : Type 0} (f : A → List ℕ) (xs : List A) → length xs < 3 → replaying_of (map f xs) ≡ None
fewer f [] few = refl
fewer f (x ∷ []) few = refl
fewer f (x ∷ y ∷ []) few = refl
fewer f (x ∷ y ∷ z ∷ r) few = absurd (omega arith)

pub more : {A : Type 0} (f : A → List ℕ) (xs : List A) → 4 ≤ length xs → replaying_of (map f xs) ≡ None
more f [] many = absurd (omega arith)
more f (x ∷ []) many = absurd (omega arith)
more f (x ∷ y ∷ []) many = absurd (omega arith)
more f (x ∷ y ∷ z ∷ []) many = absurd (omega arith)
more f (x ∷ y ∷ z ∷ u ∷ r) many = refl

-- a text is the same as itself
same_text : (x y : List ℕ) → x ≡ y → bytes_eq x y ≡ true
same_text x y e = (bytes_eq-Decides x y).1 e

-- where none of three tests holds of the first, or of the second
none_of : (p q r : Bool) → not (p || (q || r)) ≡ true → (p ≡ false) × (q ≡ false)
none_of false false r h = (refl, refl)
none_of false true r h = cc
none_of true q r h = cc

differ : (x y : List ℕ) → bytes_eq x y ≡ false → x ≢ y
differ x y h e = let t : bytes_eq x y ≡ true = same_text x y e in cc

before : (w : List ℕ) (ws : List (List ℕ)) → are_different (w ∷ ws) ≡ true → not (list_any (bytes_eq w) ws) ≡ true
before w ws h = (and_parts (not (list_any (bytes_eq w) ws)) (are_different ws) h).0

after : (w : List ℕ) (ws : List (List ℕ)) → are_different (w ∷ ws) ≡ true → are_different ws ≡ true
after w ws h = (and_parts (not (list_any (bytes_eq w) ws)) (are_different ws) h).1

-- files that differ
pub apart : (job trees elf order trace : List ℕ) → are_files (job ∷ trees ∷ elf ∷ order ∷ trace ∷ []) ≡ true
    → (elf ≢ order) × (elf ≢ trace) × (order ≢ trace)
apart job trees elf order trace h =
    let all : are_different (job ∷ trees ∷ elf ∷ order ∷ trace ∷ []) ≡ true =
    (and_parts (not (list_any is_option (job ∷ trees ∷ elf ∷ order ∷ trace ∷ []))) (are_different (job ∷ trees ∷ elf ∷ order ∷ trace ∷ [])) h).1 in
    let written : are_different (elf ∷ order ∷ trace ∷ []) ≡ true = after trees (elf ∷ order ∷ trace ∷ []) (after job (trees ∷ elf ∷ order ∷ trace ∷ []) all) in
    let first = none_of (bytes_eq elf order) (bytes_eq elf trace) false (before elf (order ∷ trace ∷ []) written) in
    let second = none_of (bytes_eq order trace) false false (before order (trace ∷ []) (after elf (order ∷ trace ∷ []) written)) in
    (differ elf order first.0, differ elf trace first.1, differ order trace second.0)

-- what is left after the first of the words
pub first_differs : (words : List (Bor (List ℕ))) (first : Bor (List ℕ)) (rest : List (Bor (List ℕ))) → words ≡ first ∷ rest
    → are_different (map (λ word. word.now) words)
    ≡ (not (list_any (λ other. bytes_eq first.now other.now) rest) && are_different (map (λ word. word.now) rest))
first_differs words first rest e = rw (e, any_seen (bytes_eq first.now) rest) refl

-- Two tests, as far as they are made.
pub first_passes : (l r s : Bool) → l ≡ false → s ≡ r → s ≡ (not l && r)
first_passes false r s h e = e
first_passes true r s h e = cc

pub first_fails : (l r s : Bool) → s ≡ l → s ≡ true → not s ≡ (not l && r)
first_fails true r s h e = rw e refl
first_fails false r s h e = cc
