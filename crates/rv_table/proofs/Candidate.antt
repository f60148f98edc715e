-- The candidate of a word. A word that agrees with a row has the fields of the row's key that the row's mask has,
-- and these tell the row.
use Rattle.std.proofs.Common.{◌≡◌, ◌↔◌, ℕ, ◌-◌, ◌^◌, ◌/◌, ◌%◌, eqb, cond, Option, Some, None, refl, sym, ap, subst, ◌∙◌, inl, inr}
use Rattle.std.specs.Prelude.{bit_and, IfSome}
use Rattle.std.proofs.lemmas.Bool.{cases_Bool, eqb-true}
use Rattle.std.proofs.lemmas.Nat.{and_shr, and_assoc, and_mask}
use Rattle.rv_fields.specs.declared.row_table.Ins.{Ins}
use Rattle.rv_fields.specs.declared.row_table.Ins.TheVariants.{Lui}
use Rattle.rv_fields.specs.RowTable.{form_of, mask_of, value_of, Agrees}
use Rattle.rv_fields.specs.Immediate.{bits_of}
use Rattle.rv_fields.specs.Decode.{ins_at}
use Rattle.rv_fields.proofs.OneRow.{one_row}
use Rattle.rv_table.specs.declared.opcodes.Key.{Key}
use Rattle.rv_table.specs.Key.{key_of, ins_with}
use Rattle.rv_table.specs.Listing.{Listed, defined}

-- a field that the mask has all bits of
covered : (word mask value low width : ℕ) → bit_and word mask ≡ value → bits_of mask low width ≡ 2 ^ width - 1
    → bits_of value low width ≡ bits_of word low width
covered word mask value low width e all =
    let w = word / 2 ^ low in
    let m = mask / 2 ^ low in
    ap (λ v. bits_of v low width) (sym e)
    ∙ ap (λ n. n % 2 ^ width) (and_shr word mask low)
    ∙ sym (and_mask (bit_and w m) width)
    ∙ and_assoc (2 ^ width - 1) w m
    ∙ ap (bit_and w) (and_mask m width ∙ all)
    ∙ and_mask w width

-- what is known of a field of a word that agrees with the row
abbrev known : Ins → ℕ → ℕ → ℕ → ℕ
known i word low width = cond (eqb (bits_of (mask_of (form_of i)) low width) (2 ^ width - 1)) (bits_of (value_of i) low width) (bits_of word low width)

field_known : (word : ℕ) (i : Ins) (low width : ℕ) → Agrees word i → bits_of word low width ≡ known i word low width
field_known word i low width e =
    elim (cases_Bool (eqb (bits_of (mask_of (form_of i)) low width) (2 ^ width - 1))) [
      | inl all ↦ rw all (sym (covered word (mask_of (form_of i)) (value_of i) low width e (eqb-true _ _ all)))
      | inr some ↦ rw some refl
    ]

abbrev key_known : Ins → ℕ → Key
key_known i word = record {
  opcode = known i word 0 7;
  funct3 = known i word 12 3;
  funct5 = known i word 27 5;
  funct7 = known i word 25 7;
  funct12 = known i word 20 12;
}

key_is_known : (word : ℕ) (i : Ins) → Agrees word i → key_of word ≡ key_known i word
key_is_known word i e =
    let opcode = field_known word i 0 7 e in
    let funct3 = field_known word i 12 3 e in
    let funct5 = field_known word i 27 5 e in
    let funct7 = field_known word i 25 7 e in
    let funct12 = field_known word i 20 12 e in
    cc

-- what is known tells the row
known_tells : (i : Ins) (word : ℕ) → ins_with (key_known i word) ≡ Some i
known_tells Lui word = refl
known_tells _ word = refl

pub key_tells : (word : ℕ) (i : Ins) → Agrees word i → ins_with (key_of word) ≡ Some i
key_tells word i e = ap ins_with (key_is_known word i e) ∙ known_tells i word

-- ---- the row of a word, by its candidate

-- whatever row the word agrees with, the candidate is its instruction
abbrev pub IsCandidate : ℕ → Option Ins → Type 0
IsCandidate word ins = (i : Ins) → Agrees word i → ins ≡ Some i

none_of : (ins : Option Ins) → ((i : Ins) → ins ≡ Some i → ⊥) → ins ≡ None
none_of None none = refl
none_of (Some i) none = absurd (none i refl)

-- where the word isn't of the candidate's row, it is of no row
pub no_row : (word : ℕ) (ins : Option Ins) → IsCandidate word ins → IfSome ins (λ i. Agrees word i → ⊥) → ins_at word ≡ None
no_row word ins is lacks =
    let lacks_row : Option Ins → Type 0 = λ o. IfSome o (λ i. Agrees word i → ⊥) in
    none_of (ins_at word) (λ i at. let agrees = (one_row word i).0 at in subst lacks_row (is i agrees) lacks agrees)

-- the word is of the line's row
abbrev pub IsOf : ℕ → Listed → Type 0
IsOf word line = bit_and word (mask_of line.row.form) ≡ line.row.value

pub is_of_row : (word : ℕ) (line : Listed) (i : Ins) → line ≡ defined i → IsOf word line ↔ Agrees word i
is_of_row word line i is = (subst (IsOf word) is, subst (IsOf word) (sym is))
