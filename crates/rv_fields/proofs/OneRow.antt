-- No word is of two rows, and no two rows have one name: so the first row that agrees with a word, or has a
-- name, is the one row that does.
use Rattle.std.proofs.Common.{◌≡◌, ◌↔◌, ℕ, zero, suc, Bool, true, false, not, cond, eqb, ◌&&◌, List, [], ◌∷◌, Some, refl, sym, ◌∙◌, eq-eqb, inl, inr}
use Rattle.std.specs.Prelude.{bit_and, find}
use Rattle.std.specs.List.{list_all, slice_get}
use Rattle.std.specs.Str.{bytes_eq}
use Rattle.std.proofs.lemmas.Bool.{and_parts, eqb-true, not-true, cases_Bool, both_ways, cond-false}
use Rattle.std.proofs.lemmas.Nat.{and_assoc, and_comm}
use Rattle.std.proofs.lemmas.Slice.Eq.{bytes_eq-Decides}
use denote.Enum.Declared.{tag_of}
use Rattle.rv_fields.specs.declared.row_table.Ins.{Ins}
use Rattle.rv_fields.specs.contracts.row_table.Ins.{the_type}
use Rattle.rv_fields.specs.declared.row_table.Ins.TheVariants.{Lui}
use Rattle.rv_fields.specs.RowTable.{all_ins, name_of, form_of, mask_of, value_of, Agrees}
use Rattle.rv_fields.specs.Decode.{agrees, ins_at}

-- Each instruction's number, as its enum has it, is its place in the table.
abbrev pub place_of : Ins → ℕ
place_of i = tag_of the_type i

pub listed : (i : Ins) → slice_get all_ins (place_of i) ≡ Some i
listed Lui = refl
listed _ = refl

-- ---- one at most

-- each two of a list are apart
abbrev all_apart : (Ins → Ins → Bool) → List Ins → Bool
all_apart apart [] = true
all_apart apart (i ∷ others) = list_all (apart i) others && all_apart apart others

-- of two that are apart, one at most passes the test
abbrev OneAtMost : (Ins → Ins → Bool) → (Ins → Bool) → Type 0
OneAtMost apart p = (i j : Ins) → apart i j ≡ true → p j ≡ true → p i ≡ false

all_at : (p : Ins → Bool) (xs : List Ins) (n : ℕ) (i : Ins) → list_all p xs ≡ true → slice_get xs n ≡ Some i → p i ≡ true
all_at p [] n i h at = absurd cc
all_at p (x ∷ xs) zero i h at = let x-is : x ≡ i = cc in rw (← x-is) (and_parts _ _ h).0
all_at p (x ∷ xs) (suc n) i h at = all_at p xs n i (and_parts _ _ h).1 at

found : (apart : Ins → Ins → Bool) (p : Ins → Bool) (xs : List Ins) (n : ℕ) (i : Ins) → OneAtMost apart p → all_apart apart xs ≡ true
    → slice_get xs n ≡ Some i → p i ≡ true → find p xs ≡ Some i
found apart p [] n i one h at passes = absurd cc
found apart p (x ∷ xs) zero i one h at passes = let x-is : x ≡ i = cc in rw (x-is, passes) refl
found apart p (x ∷ xs) (suc n) i one h at passes =
    let parts = and_parts _ _ h in
    let not_x : p x ≡ false = one x i (all_at (apart x) xs n i parts.0 at) passes in
    rw not_x (found apart p xs n i one parts.1 at passes)

passes_found : (p : Ins → Bool) (xs : List Ins) (i : Ins) → find p xs ≡ Some i → p i ≡ true
passes_found p [] i e = absurd cc
passes_found p (x ∷ xs) i e =
    elim (cases_Bool (p x)) [
      | inl of_x ↦ let x-is : x ≡ i = (let g : cond (p x) (Some x) (find p xs) ≡ Some i = e in cc) in rw (← x-is) of_x
      | inr not_x ↦ passes_found p xs i (sym (cond-false (p x) (Some x) (find p xs) not_x) ∙ e)
    ]

-- the first of the table that passes is the one that does
the_one : (apart : Ins → Ins → Bool) (p : Ins → Bool) (i : Ins) → OneAtMost apart p → all_apart apart all_ins ≡ true
    → (find p all_ins ≡ Some i) ↔ (p i ≡ true)
the_one apart p i one h = (passes_found p all_ins i, found apart p all_ins (place_of i) i one h (listed i))

-- ---- words

-- Two rows differ in a bit that the masks of both have.
abbrev bits_apart : Ins → Ins → Bool
bits_apart i j = not (eqb (bit_and (value_of i) (mask_of (form_of j))) (bit_and (value_of j) (mask_of (form_of i))))

table_bits_apart : all_apart bits_apart all_ins ≡ true
table_bits_apart = refl

-- a word under two masks
masked_twice : (word m n v w : ℕ) → bit_and word m ≡ v → bit_and word n ≡ w → bit_and v n ≡ bit_and w m
masked_twice word m n v w p q =
    rw (← p, ← q, and_assoc n word m, and_assoc m word n, and_comm m n) refl

one_agrees : (word : ℕ) → OneAtMost bits_apart (agrees word)
one_agrees word i j differ of_j =
    elim (cases_Bool (agrees word i)) [
      | inl of_i ↦ absurd (both_ways _ (not-true _ differ) (eq-eqb _ _ (masked_twice word _ _ _ _ (eqb-true _ _ of_i) (eqb-true _ _ of_j))))
      | inr e ↦ e
    ]

-- the one row of a word
pub one_row : (word : ℕ) (i : Ins) → (ins_at word ≡ Some i) ↔ Agrees word i
unfolding ins_at
one_row word i =
    let one = the_one bits_apart (agrees word) i (one_agrees word) table_bits_apart in
    (λ e. eqb-true _ _ (one.0 e), λ h. one.1 (eq-eqb _ _ h))

-- the row of a word is the first of the table that agrees with it
pub first_agrees : (word : ℕ) → find (agrees word) all_ins ≡ ins_at word
unfolding ins_at
first_agrees word = refl

-- ---- names

-- the test that the instruction has the name
abbrev pub is_named : List ℕ → Ins → Bool
is_named name i = bytes_eq (name_of i) name

names_apart : Ins → Ins → Bool
names_apart i j = not (bytes_eq (name_of i) (name_of j))

table_names_apart : all_apart names_apart all_ins ≡ true
unfolding names_apart
table_names_apart = refl

one_named : (name : List ℕ) → OneAtMost names_apart (is_named name)
unfolding names_apart
one_named name i j differ of_j =
    elim (cases_Bool (is_named name i)) [
      | inl of_i ↦
          let same : name_of i ≡ name_of j = (bytes_eq-Decides (name_of i) name).0 of_i ∙ sym ((bytes_eq-Decides (name_of j) name).0 of_j) in
          absurd (both_ways _ (not-true _ differ) ((bytes_eq-Decides (name_of i) (name_of j)).1 same))
      | inr e ↦ e
    ]

-- the one row of a name
pub one_name : (name : List ℕ) (i : Ins) → (find (is_named name) all_ins ≡ Some i) ↔ (name_of i ≡ name)
one_name name i =
    let one = the_one names_apart (is_named name) i (one_named name) table_names_apart in
    let says = bytes_eq-Decides (name_of i) name in
    (λ e. says.0 (one.0 e), λ h. one.1 (says.1 h))

-- ---- values

-- A row's value has no bit that its mask lacks.
abbrev within_mask : Ins → Bool
within_mask i = eqb (bit_and (value_of i) (mask_of (form_of i))) (value_of i)

table_within_mask : list_all within_mask all_ins ≡ true
table_within_mask = refl

pub value_masked : (i : Ins) → Agrees (value_of i) i
value_masked i = eqb-true _ _ (all_at within_mask all_ins (place_of i) i table_within_mask (listed i))
