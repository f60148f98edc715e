-- Steps that are spelled alike are the same.
use Rattle.std.proofs.Common.{ℕ, ◌<◌, ◌≤◌, ◌≡◌, ◌^◌, List, [], length, get_or, Option, Some, None, IfSome, sym, ap, ◌∙◌}
use Rattle.std.specs.List.{AllByRecursion}
use Rattle.std.specs.Fmt.{decimal, digits}
use Rattle.std.proofs.lemmas.Option.{same_Some}
use Rattle.rv_fields.specs.declared.access.Accessed.{Accessed}
use Rattle.rv_fields.specs.declared.trap.Trap.{Trap}
use Rattle.rv_fields.specs.Effect.{Effect, Entry}
use Rattle.trace_fields.specs.Numbers.{decimal_below, word_reading}
use Rattle.trace_fields.specs.Readings.{access_reading, hex_reading, optional, trail_reading, trap_reading, write_reading}
use Rattle.trace_fields.specs.Text.{access_text, hex, none_text, or_none, trail_text, trap_text, word_text, write_text}
use Rattle.trace_text.specs.Text.{step_fields}
use Rattle.trace_fields.specs.Ranges.{IsAccess, IsEntry, IsTrap, IsWrite}
use Rattle.trace_fields.proofs.Spells.{Spells}
use Rattle.trace_fields.proofs.Spellings.{hart_spells, hex_spells, optional_access_spells, optional_spells, optional_trap_spells, optional_write_spells, trail_spells, word_spells}

-- what a trace can spell of a step, which may lack a physical address and a word
pub record CanSpell (harts : ℕ) (e : Effect) : Type 0 where
  pub hart : e.hart < harts
  pub pc : e.pc < 2 ^ 64
  pub pa : IfSome e.pa (λ pa. pa < 2 ^ 64)
  pub word : IfSome e.word (λ word. word < 2 ^ 32)
  pub rd : IfSome e.rd IsWrite
  pub access : IfSome e.access IsAccess
  pub trail : (length e.trail ≤ 4) × AllByRecursion IsEntry e.trail
  pub trap : IfSome e.trap IsTrap

one_to_one : {A : Type 0} (text : A → List ℕ) (reading : List ℕ → Option A) (Fits : A → Type 0) → Spells text reading Fits
    → (a b : A) → Fits a → Fits b → text a ≡ text b → a ≡ b
one_to_one text reading Fits spells a b fits_a fits_b same = same_Some a b (sym (spells.again a fits_a) ∙ ap reading same ∙ spells.again b fits_b)

-- ---- the fields

-- a number isn't spelled as nothing is
hex_is_something : (n : ℕ) → n < 2 ^ 64 → hex n ≡ none_text → ⊥
unfolding digits
hex_is_something n small is = absurd (let none : None ≡ Some n = sym (ap hex_reading is) ∙ hex_spells.again n small in cc)

word_is_something : (w : ℕ) → w < 2 ^ 32 → word_text w ≡ none_text → ⊥
unfolding digits
word_is_something w small is = absurd (let none : None ≡ Some w = sym (ap word_reading is) ∙ word_spells.again w small in cc)

field_at : (k : ℕ) (told found : List (List ℕ)) → told ≡ found → get_or told k [] ≡ get_or found k []
field_at k told found same = ap (λ fields. get_or fields k []) same

abbrev effect_of_parts : ℕ → ℕ → Option ℕ → Option ℕ → Option (ℕ × ℕ) → Option Accessed → List Entry → Option Trap → Effect
effect_of_parts hart pc pa word rd access trail trap =
    record { hart = hart; pc = pc; pa = pa; word = word; rd = rd; access = access; trail = trail; trap = trap }

pub same_step : (harts : ℕ) (t f : Effect) → harts ≤ 2 ^ 64 → CanSpell harts t → CanSpell harts f → step_fields t ≡ step_fields f → t ≡ f
same_step harts t f most told found same =
    let hart : t.hart ≡ f.hart = one_to_one decimal (decimal_below harts) (λ h. h < harts) (hart_spells harts most) t.hart f.hart told.hart found.hart (field_at 0 _ _ same) in
    let pc : t.pc ≡ f.pc = one_to_one hex hex_reading (λ n. n < 2 ^ 64) hex_spells t.pc f.pc told.pc found.pc (field_at 1 _ _ same) in
    let pa : t.pa ≡ f.pa = one_to_one (or_none hex) (optional hex_reading) (λ o. IfSome o (λ n. n < 2 ^ 64)) (optional_spells hex_spells hex_is_something) t.pa f.pa told.pa found.pa (field_at 2 _ _ same) in
    let word : t.word ≡ f.word = one_to_one (or_none word_text) (optional word_reading) (λ o. IfSome o (λ w. w < 2 ^ 32)) (optional_spells word_spells word_is_something) t.word f.word told.word found.word (field_at 3 _ _ same) in
    let rd : t.rd ≡ f.rd = one_to_one (or_none write_text) (optional write_reading) (λ o. IfSome o IsWrite) optional_write_spells t.rd f.rd told.rd found.rd (field_at 4 _ _ same) in
    let access : t.access ≡ f.access = one_to_one (or_none access_text) (optional access_reading) (λ o. IfSome o IsAccess) optional_access_spells t.access f.access told.access found.access (field_at 5 _ _ same) in
    let trail : t.trail ≡ f.trail = one_to_one trail_text trail_reading (λ trail. (length trail ≤ 4) × AllByRecursion IsEntry trail) trail_spells t.trail f.trail told.trail found.trail (field_at 6 _ _ same) in
    let trap : t.trap ≡ f.trap = one_to_one (or_none trap_text) (optional trap_reading) (λ o. IfSome o IsTrap) optional_trap_spells t.trap f.trap told.trap found.trap (field_at 7 _ _ same) in
    ap (λ q. effect_of_parts q t.pc t.pa t.word t.rd t.access t.trail t.trap) hart
    ∙ ap (λ q. effect_of_parts f.hart q t.pa t.word t.rd t.access t.trail t.trap) pc
    ∙ ap (λ q. effect_of_parts f.hart f.pc q t.word t.rd t.access t.trail t.trap) pa
    ∙ ap (λ q. effect_of_parts f.hart f.pc f.pa q t.rd t.access t.trail t.trap) word
    ∙ ap (λ q. effect_of_parts f.hart f.pc f.pa f.word q t.access t.trail t.trap) rd
    ∙ ap (λ q. effect_of_parts f.hart f.pc f.pa f.word f.rd q t.trail t.trap) access
    ∙ ap (λ q. effect_of_parts f.hart f.pc f.pa f.word f.rd f.access q t.trap) trail
    ∙ ap (λ q. effect_of_parts f.hart f.pc f.pa f.word f.rd f.access f.trail q) trap
