-- What is encoded decodes to what was asked, and what decodes to it is what is encoded.
use Rattle.std.proofs.Common.{◌≡◌, ℕ, zero, suc, ◌^◌, ◌<◌, Bool, true, false, not, cond, List, [], ◌∷◌, Option, Some, None, refl, sym, ap, subst, ◌∙◌}
use Rattle.std.specs.Prelude.{option_map, find}
use Rattle.std.specs.List.{slice_get}
use Rattle.std.proofs.lemmas.Bool.{not-false}
use Rattle.rv_fields.specs.declared.row_table.Ins.{Ins}
use Rattle.rv_fields.specs.declared.row_table.Form.{Form}
use Rattle.rv_fields.specs.declared.row_table.Ops.{Ops}
use Rattle.rv_fields.specs.RowTable.{form_of, value_of, Agrees}
use Rattle.rv_fields.specs.Decode.{Decoded, decoded, ins_at, fields_of}
use Rattle.rv_fields.proofs.OneRow.{one_row, value_masked}
use Rattle.rv_fields.proofs.Options.{found_map}
use Rattle.rv_encode.specs.declared.field.Field.{Field}
use Rattle.rv_encode.specs.declared.field.Field.TheVariants.{Rd, Rs1, Rs2, Imm, AqRl}
use Rattle.rv_encode.specs.Fitting.{all_fields, fits, misfit}
use Rattle.rv_encode.specs.Packing.{packed}
use Rattle.rv_encode.proofs.Packing.{spells, read_fits, packs_again}

-- ---- misfits

unmapped : {A B : Type 0} (f : A → B) (o : Option A) → option_map f o ≡ None → o ≡ None
unmapped f None e = refl
unmapped f (Some x) e = absurd cc

fails : {X : Type 0} (b : Bool) (y : X) (others : Option X) → cond b (Some y) others ≡ None → (b ≡ false) × (others ≡ None)
fails true y others e = absurd cc
fails false y others e = (refl, e)

-- where nothing is found, nothing passes the test
not_found : {X : Type 0} (p : X → Bool) (xs : List X) (n : ℕ) (x : X) → find p xs ≡ None → slice_get xs n ≡ Some x → p x ≡ false
not_found p [] n x e at = absurd cc
not_found p (y ∷ ys) zero x e at = let y-is : y ≡ x = cc in rw (← y-is) (fails (p y) y (find p ys) e).0
not_found p (y ∷ ys) (suc n) x e at = not_found p ys n x (fails (p y) y (find p ys) e).1 at

-- the place of each field
listed : (f : Field) → (n : ℕ) × (slice_get all_fields n ≡ Some f)
listed Rd = (0, refl)
listed Rs1 = (1, refl)
listed Rs2 = (2, refl)
listed Imm = (3, refl)
listed AqRl = (4, refl)

pub all_fit : (form : Form) (ops : Ops) → misfit form ops ≡ None → (f : Field) → fits form ops f ≡ true
all_fit form ops e f =
    not-false _ (not_found (λ f. not (fits form ops f)) all_fields (listed f).0 f (unmapped _ _ e) (listed f).1)

pub no_misfit : (form : Form) (ops : Ops) → ((f : Field) → fits form ops f ≡ true) → misfit form ops ≡ None
no_misfit form ops fit = rw (fit Rd, fit Rs1, fit Rs2, fit Imm, fit AqRl) refl

-- ---- words

pub encoded_decodes : (ins : Ins) (ops : Ops) → misfit (form_of ins) ops ≡ None
    → decoded (packed (form_of ins) (value_of ins) ops) ≡ Some (record { ins = ins; ops = ops })
encoded_decodes ins ops e =
    let word = packed (form_of ins) (value_of ins) ops in
    let spelt = spells (form_of ins) (value_of ins) ops (value_masked ins) (all_fit (form_of ins) ops e) in
    let read : Ins → Decoded = λ i. record { ins = i; ops = fields_of (form_of i) word } in
    let with_ops : Ops → Option Decoded = λ o. Some (record { ins = ins; ops = o }) in
    ap (option_map read) ((one_row word ins).1 spelt.0) ∙ ap with_ops spelt.1

-- the operands fit, and the word is what is encoded
abbrev IsEncoded : ℕ → Decoded → Type 0
IsEncoded word d = (misfit (form_of d.ins) d.ops ≡ None) × (packed (form_of d.ins) (value_of d.ins) d.ops ≡ word)

pub decoded_is_encoded : (word : ℕ) (ins : Ins) (ops : Ops) → word < 2 ^ 32 → decoded word ≡ Some (record { ins = ins; ops = ops })
    → (misfit (form_of ins) ops ≡ None) × (packed (form_of ins) (value_of ins) ops ≡ word)
decoded_is_encoded word ins ops small e =
    let read : Ins → Decoded = λ i. record { ins = i; ops = fields_of (form_of i) word } in
    let found = found_map read (ins_at word) (record { ins = ins; ops = ops }) e in
    let i = found.0 in
    let agrees : Agrees word i = (one_row word i).0 found.1 in
    let fit = no_misfit (form_of i) (fields_of (form_of i) word) (read_fits (form_of i) word) in
    let again : packed (form_of i) (value_of i) (fields_of (form_of i) word) ≡ word =
    ap (λ value. packed (form_of i) value (fields_of (form_of i) word)) (sym agrees) ∙ packs_again (form_of i) word small in
    subst (IsEncoded word) found.2 (fit, again)
