-- The code's table is the manual's: what is first in the one is first in the other.
use Rattle.std.proofs.Common.{◌≡◌, ◌↔◌, ℕ, zero, suc, Bool, List, [], ◌∷◌, map, Option, Some, None, refl, sym, ap, ◌∙◌, inl, inr}
use Rattle.std.specs.Prelude.{option_map, find}
use Rattle.std.specs.List.{slice_get}
use Rattle.std.proofs.lemmas.Bool.{cases_Bool}
use Rattle.rv_fields.specs.declared.row_table.Ins.{Ins}
use Rattle.rv_fields.specs.RowTable.{all_ins, name_of, form_of, Agrees}
use Rattle.rv_fields.specs.declared.row_table.Ops.{Ops}
use Rattle.rv_fields.specs.Decode.{Decoded, ins_at, fields_of}
use Rattle.rv_fields.proofs.OneRow.{place_of}
use Rattle.rv_fields.proofs.OneRow as one
use Rattle.rv_table.specs.declared.table.Entry.{Entry}
use Rattle.rv_table.specs.Listing.{Listed, listed_entry, defined}

abbrev pub decoded_as : Ins → Ops → Decoded
decoded_as ins ops = record { ins = ins; ops = ops }

-- the lines are the manual's rows, in the table's order
abbrev pub IsTable : List Entry → Type 0
IsTable lines = map listed_entry lines ≡ map defined all_ins

-- ---- the first line that passes

first-map : {A B : Type 0} (f : A → B) (p : B → Bool) (xs : List A) → find p (map f xs) ≡ option_map f (find (λ x. p (f x)) xs)
first-map f p [] = refl
first-map f p (x ∷ xs) =
    elim (cases_Bool (p (f x))) [
      | inl e ↦ rw e refl
      | inr e ↦ rw e (first-map f p xs)
    ]

-- the first line that passes has the first instruction whose row passes, with that row
pub first_is : (p : Listed → Bool) (lines : List Entry) → IsTable lines
    → option_map listed_entry (find (λ e. p (listed_entry e)) lines) ≡ option_map defined (find (λ i. p (defined i)) all_ins)
first_is p lines is = sym (first-map listed_entry p lines) ∙ ap (find p) is ∙ first-map defined p all_ins

-- ---- the line of an instruction

get-map : {A B : Type 0} (f : A → B) (xs : List A) (n : ℕ) (x : A) → slice_get xs n ≡ Some x → slice_get (map f xs) n ≡ Some (f x)
get-map f [] n x e = absurd cc
get-map f (y ∷ ys) zero x e = let y-is : y ≡ x = cc in rw y-is refl
get-map f (y ∷ ys) (suc n) x e = get-map f ys n x e

-- the line at an instruction's number has its row
pub entry_is : (lines : List Entry) (i : Ins) (e : Entry) → IsTable lines → slice_get lines (place_of i) ≡ Some e → listed_entry e ≡ defined i
entry_is lines i e is at =
    let read : Some (listed_entry e) ≡ Some (defined i) =
    sym (get-map listed_entry lines (place_of i) e at) ∙ ap (λ ls. slice_get ls (place_of i)) is ∙ get-map defined all_ins (place_of i) i (one.listed i) in
    cc

-- ---- what a line that is found tells

-- a line found, and the instruction that the manual has there
abbrev pub IsLineOf : Option Entry → Option Ins → Type 0
IsLineOf line ins = option_map listed_entry line ≡ option_map defined ins

-- the line's instruction is the one there
pub ins_told : (line : Option Entry) (ins : Option Ins) → IsLineOf line ins → option_map (λ (e : Entry). e.0) line ≡ ins
ins_told None None e = refl
ins_told None (Some i) e = absurd cc
ins_told (Some l) None e = absurd cc
ins_told (Some l) (Some i) e = ap (option_map (λ (l : Listed). l.ins)) e

-- and the fields of the line's form are those of its form
pub fields_told : (word : ℕ) (line : Option Entry) (ins : Option Ins) → IsLineOf line ins
    → option_map (λ (e : Entry). decoded_as e.0 (fields_of e.1 word)) line ≡ option_map (λ i. decoded_as i (fields_of (form_of i) word)) ins
fields_told word None None e = refl
fields_told word None (Some i) e = absurd cc
fields_told word (Some l) None e = absurd cc
fields_told word (Some l) (Some i) e = ap (option_map (λ (l : Listed). decoded_as l.ins (fields_of l.row.form word))) e

pub row_told : (word : ℕ) (line : Option Entry) (i : Ins) → IsLineOf line (ins_at word) → (option_map (λ (e : Entry). e.0) line ≡ Some i) ↔ Agrees word i
row_told word line i is =
    let told = ins_told line (ins_at word) is in
    (λ e. (one.one_row word i).0 (sym told ∙ e), λ agrees. told ∙ (one.one_row word i).1 agrees)

pub name_told : (name : List ℕ) (line : Option Entry) (i : Ins) → IsLineOf line (find (one.is_named name) all_ins)
    → (option_map (λ (e : Entry). e.0) line ≡ Some i) ↔ (name_of i ≡ name)
name_told name line i is =
    let told = ins_told line (find (one.is_named name) all_ins) is in
    (λ e. (one.one_name name i).0 (sym told ∙ e), λ named. told ∙ (one.one_name name i).1 named)
