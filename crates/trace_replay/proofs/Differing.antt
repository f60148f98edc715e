-- No difference is found exactly where the harts boot and do what is told.
use Rattle.std.proofs.Common.{ℕ, zero, suc, ◌+◌, ◌<◌, ◌≤◌, ◌≡◌, ◌^◌, Bool, true, false, cond, eqb, eqb-true, eq-eqb, List, [], ◌∷◌, length, map, Option, Some, None, refl, sym, ap, subst, ◌∙◌, arith, inl, inr, min, ◌≢◌, length-take, ◌-◌}
use Rattle.std.specs.Prelude.{is_none, slice_get, take}
use Rattle.std.specs.List.{AllByRecursion, cons_option}
use Rattle.std.specs.Option.{option_map_or, option_or}
use Rattle.std.specs.Fmt.{decimal}
use Rattle.std.specs.Str.{bytes_eq}
use Rattle.std.proofs.lemmas.Bool.Decides.{eqb_tells}
use Rattle.std.proofs.lemmas.Slice.Eq.{bytes_eq-Decides}
use Rattle.std.proofs.lemmas.Bool.{and_parts}
use Rattle.rv_fields.specs.declared.trap.Trap.{Trap}
use Rattle.rv_fields.specs.Effect.{Effect}
use Rattle.trace_text.specs.Lines.{Line, effect_of, effects_of}
use Rattle.trace_text.specs.Text.{step_fields}
use Rattle.boot_words.specs.Boot.{mret, spelled}
use Rattle.boot_words.specs.Booting.{boot_steps}
use Rattle.boot_words.specs.Passing.{BeginsWithBoot, behind_boots, effects_by}
use Rattle.trace_replay.specs.Comparing.{Difference, StepAt, begins_with_boot, boot_differs, boots_differ, compared_fields, field_differs, fields_differ, first_difference, harts_differ, steps_at, steps_differ, untrapped}
use Rattle.trace_replay.specs.declared.verdict.LineField.{LineField}
use Rattle.trace_replay.specs.declared.verdict.LineField.TheVariants.{Boot}
use Rattle.trace_replay.proofs.Spelt.{CanSpell, same_step}

-- ---- fields

neither : {A : Type 0} (m n : Option A) → option_or m n ≡ None → (m ≡ None) × (n ≡ None)
neither None n none = (refl, none)
neither (Some a) n none = absurd cc

same_fields : (line : ℕ) (fields : List LineField) (told found : List (List ℕ)) → length told ≡ length fields → length found ≡ length fields
    → fields_differ line fields told found ≡ None → told ≡ found
same_fields line [] [] [] long also none = refl
same_fields line [] [] (f ∷ found) long also none = absurd cc
same_fields line [] (t ∷ told) found long also none = absurd cc
same_fields line (field ∷ fields) [] found long also none = absurd cc
same_fields line (field ∷ fields) (t ∷ told) [] long also none = absurd cc
same_fields line (field ∷ fields) (t ∷ told) (f ∷ found) long also none =
    let left : length told ≡ length fields = cc in
    let right : length found ≡ length fields = cc in
    let both = neither (field_differs line field t f) (fields_differ line fields told found) none in
    let head : field_differs line field t f ≡ None = both.0 in
    ap (λ q. q ∷ told) (same_field (bytes_eq t f) refl head) ∙ ap (λ q. f ∷ q) (same_fields line fields told found left right both.1)
  where
    found_here : Option Difference
    found_here = Some (record { line = line; field = field; told = t; found = f })

    same_field : (b : Bool) → b ≡ bytes_eq t f → cond b None found_here ≡ None → t ≡ f
    same_field true e none = (bytes_eq-Decides t f).0 (sym e)
    same_field false e none = absurd cc

pub no_field_differs : (line : ℕ) (fields : List LineField) (told : List (List ℕ)) → fields_differ line fields told told ≡ None
no_field_differs line [] told = refl
no_field_differs line (field ∷ fields) [] = refl
no_field_differs line (field ∷ fields) (t ∷ told) =
    ap (λ b. option_or (cond b None (Some (record { line = line; field = field; told = t; found = t }))) (fields_differ line fields told told)) ((bytes_eq-Decides t t).1 refl)
    ∙ no_field_differs line fields told

-- ---- steps

abbrev pub effects_at : List StepAt → List Effect
effects_at steps = map (λ (s : StepAt). s.effect) steps

abbrev CanSpellAll : ℕ → List Effect → Type 0
CanSpellAll harts effects = AllByRecursion (CanSpell harts) effects

pub same_steps : (harts behind : ℕ) (steps : List StepAt) (effects : List Effect) → harts ≤ 2 ^ 64 → CanSpellAll harts (effects_at steps) → CanSpellAll harts effects
    → steps_differ behind steps effects ≡ None → effects_at steps ≡ effects
same_steps harts behind [] [] most told found none = refl
same_steps harts behind [] (e ∷ effects) most told found none = absurd cc
same_steps harts behind (s ∷ steps) [] most told found none = absurd cc
same_steps harts behind (s ∷ steps) (e ∷ effects) most told found none =
    let both = neither (fields_differ s.line compared_fields (step_fields s.effect) (step_fields e)) (steps_differ behind steps effects) none in
    let same : s.effect ≡ e = same_step harts s.effect e most told.0 found.0 (same_fields s.line compared_fields (step_fields s.effect) (step_fields e) refl refl both.0) in
    ap (λ q. q ∷ effects_at steps) same ∙ ap (λ q. e ∷ q) (same_steps harts behind steps effects most told.1 found.1 both.1)

pub no_step_differs : (behind : ℕ) (steps : List StepAt) → steps_differ behind steps (effects_at steps) ≡ None
no_step_differs behind [] = refl
no_step_differs behind (s ∷ steps) =
    ap (λ q. option_or q (steps_differ behind steps (effects_at steps))) (no_field_differs s.line compared_fields (step_fields s.effect)) ∙ no_step_differs behind steps

-- the effects of the step lines, whatever their numbers
pub effects_of_steps : (number : ℕ) (lines : List Line) → effects_at (steps_at number lines) ≡ effects_of lines
effects_of_steps number [] = refl
effects_of_steps number (line ∷ lines) = of (effect_of line) (effects_of_steps (number + 1) lines)
  where
    of : (m : Option Effect) → effects_at (steps_at (number + 1) lines) ≡ effects_of lines
        → effects_at (option_map_or (λ (e : Effect). record { line = number; effect = e } ∷ steps_at (number + 1) lines) m (steps_at (number + 1) lines))
        ≡ cons_option m (effects_of lines)
    of None same = same
    of (Some e) same = ap (λ q. e ∷ q) same

-- ---- boots

-- so many effects before the first that traps: they are as many as there are exactly where none traps
all_untrapped : (effects : List Effect) → untrapped effects ≡ length effects → AllByRecursion (λ (e : Effect). e.trap ≡ None) effects
all_untrapped [] is = tt
all_untrapped (e ∷ effects) is = of e.trap refl (all_untrapped effects) is
  where
    of : (m : Option Trap) → m ≡ e.trap → (untrapped effects ≡ length effects → AllByRecursion (λ (e : Effect). e.trap ≡ None) effects) → cond (is_none m) (suc (untrapped effects)) 0 ≡ suc (length effects) → (e.trap ≡ None) × AllByRecursion (λ (e : Effect). e.trap ≡ None) effects
    of None same rest is = (sym same, rest cc)
    of (Some t) same rest is = absurd cc

none_traps : (effects : List Effect) → AllByRecursion (λ (e : Effect). e.trap ≡ None) effects → untrapped effects ≡ length effects
none_traps [] all = refl
none_traps (e ∷ effects) all = ap (λ m. cond (is_none m) (suc (untrapped effects)) 0) all.0 ∙ ap suc (none_traps effects all.1)

never_more : (effects : List Effect) → untrapped effects ≤ length effects
never_more [] = omega arith
never_more (e ∷ effects) = of (is_none e.trap) (never_more effects)
  where
    of : (b : Bool) → untrapped effects ≤ length effects → cond b (suc (untrapped effects)) 0 ≤ suc (length effects)
    of true less = omega arith
    of false less = omega arith

-- the test that a step executes mret
abbrev executes_mret : Option Effect → Bool
executes_mret m = option_map_or (λ (e : Effect). option_map_or (λ word. eqb word (spelled mret)) e.word false) m false

word_is : (m : Option ℕ) → option_map_or (λ word. eqb word (spelled mret)) m false ≡ true → m ≡ Some (spelled mret)
word_is None is = absurd cc
word_is (Some word) is = ap Some (eqb-true word (spelled mret) is)

pub boot_passes : (effects : List Effect) → begins_with_boot effects ≡ true → BeginsWithBoot effects
boot_passes effects is =
    let both = and_parts (eqb (untrapped (take boot_steps effects)) boot_steps) (executes_mret (slice_get effects (boot_steps - 1))) is in
    let count : untrapped (take boot_steps effects) ≡ boot_steps = eqb-true _ _ both.0 in
    let long : length (take boot_steps effects) ≡ min boot_steps (length effects) = length-take boot_steps effects in
    let whole : untrapped (take boot_steps effects) ≡ length (take boot_steps effects) = omega (arith, count, long, never_more (take boot_steps effects)) in
    record {
      enough = omega (arith, count, long, never_more (take boot_steps effects));
      untrapped = all_untrapped (take boot_steps effects) whole;
      returns = λ e at. word_is e.word (sym (ap executes_mret at) ∙ both.1);
    }

pub boot_told : (effects : List Effect) → BeginsWithBoot effects → begins_with_boot effects ≡ true
boot_told effects boot =
    let long : length (take boot_steps effects) ≡ min boot_steps (length effects) = length-take boot_steps effects in
    let count : untrapped (take boot_steps effects) ≡ boot_steps = none_traps (take boot_steps effects) boot.untrapped ∙ omega (arith, long, boot.enough) in
    let last = found_at effects (boot_steps - 1) (omega (arith, boot.enough)) in
    let word : executes_mret (slice_get effects (boot_steps - 1)) ≡ true = ap executes_mret last.1 ∙ ap (λ m. option_map_or (λ word. eqb word (spelled mret)) m false) (boot.returns last.0 last.1) in
    rw (eq-eqb _ _ count) word
  where
    found_at : (es : List Effect) (i : ℕ) → i < length es → (e : Effect) × (slice_get es i ≡ Some e)
    found_at [] i below = absurd (omega arith)
    found_at (e ∷ es) zero below = (e, refl)
    found_at (e ∷ es) (suc i) below = found_at es i (omega arith)

-- of all harts from one on
pub boots_pass : (h count : ℕ) (effects : List Effect) → boots_differ h count effects ≡ None → (k : ℕ) → h ≤ k → k < h + count → BeginsWithBoot (effects_by k effects)
boots_pass h zero effects none k from below = absurd (omega arith)
boots_pass h (suc count) effects none k from below =
    let both = neither (boot_differs h (effects_by h effects)) (boots_differ (h + 1) count effects) none in
    elim (eqb_tells k h) [
      | inl same ↦ subst (λ q. BeginsWithBoot (effects_by q effects)) (sym same.1) (boot_passes (effects_by h effects) (well (begins_with_boot (effects_by h effects)) refl both.0))
      | inr other ↦ boots_pass (h + 1) count effects both.1 k (let apart : k ≢ h = other.1 in omega arith) (omega (arith, below))
    ]
  where
    well : (b : Bool) → b ≡ begins_with_boot (effects_by h effects)
        → cond {A = Option Difference} b None (Some (record { line = 1; field = Boot; told = decimal h; found = decimal (untrapped (take boot_steps (effects_by h effects))) })) ≡ None
        → begins_with_boot (effects_by h effects) ≡ true
    well true e none = sym e
    well false e none = absurd cc

pub boots_told : (h count : ℕ) (effects : List Effect) → ((k : ℕ) → h ≤ k → k < h + count → BeginsWithBoot (effects_by k effects)) → boots_differ h count effects ≡ None
boots_told h zero effects boot = refl
boots_told h (suc count) effects boot =
    let first = boot_told (effects_by h effects) (boot h (omega arith) (omega arith)) in
    let here : boot_differs h (effects_by h effects) ≡ None = rw first refl in
    ap (λ q. option_or q (boots_differ (h + 1) count effects)) here ∙ boots_told (h + 1) count effects (λ k from below. boot k (omega (arith, from)) (omega (arith, below)))

-- ---- all of it

-- each hart boots, and behind the boots the harts do what the step lines tell
pub record DoesWhatIsTold (harts : ℕ) (lines : List Line) (effects : List Effect) : Type 0 where
  pub boots : (h : ℕ) → h < harts → BeginsWithBoot (effects_by h effects)
  pub behind : behind_boots [] effects ≡ effects_of lines

pub none_found : (harts : ℕ) (lines : List Line) (effects : List Effect) → harts ≤ 2 ^ 64 → CanSpellAll harts (effects_of lines) → CanSpellAll harts (behind_boots [] effects)
    → first_difference harts harts lines effects ≡ None → DoesWhatIsTold harts lines effects
none_found harts lines effects most told found none =
    let first = neither (harts_differ harts harts) (option_or (boots_differ 0 harts effects) (steps_differ (2 + length lines) (steps_at 2 lines) (behind_boots [] effects))) none in
    let rest = neither (boots_differ 0 harts effects) (steps_differ (2 + length lines) (steps_at 2 lines) (behind_boots [] effects)) first.1 in
    let lined = effects_of_steps 2 lines in
    let same = same_steps harts (2 + length lines) (steps_at 2 lines) (behind_boots [] effects) most (subst (CanSpellAll harts) (sym lined) told) found rest.1 in
    record { boots = λ h below. boots_pass 0 harts effects rest.0 h (omega arith) (omega (arith, below)); behind = sym same ∙ lined }

pub none_there : (harts : ℕ) (lines : List Line) (effects : List Effect) → DoesWhatIsTold harts lines effects → first_difference harts harts lines effects ≡ None
none_there harts lines effects does =
    let number : harts_differ harts harts ≡ None = rw (eq-eqb harts harts refl) refl in
    let boots = boots_told 0 harts effects (λ k from below. does.boots k (omega (arith, below))) in
    let steps : steps_differ (2 + length lines) (steps_at 2 lines) (behind_boots [] effects) ≡ None =
    ap (steps_differ (2 + length lines) (steps_at 2 lines)) (does.behind ∙ sym (effects_of_steps 2 lines)) ∙ no_step_differs (2 + length lines) (steps_at 2 lines) in
    ap (λ q. option_or q (option_or (boots_differ 0 harts effects) (steps_differ (2 + length lines) (steps_at 2 lines) (behind_boots [] effects)))) number
    ∙ ap (λ q. option_or q (steps_differ (2 + length lines) (steps_at 2 lines) (behind_boots [] effects))) boots ∙ steps
