-- The fields of a step, one after another.
use Rattle.std.proofs.Common.{ℕ, zero, suc, ◌+◌, ◌<◌, ◌≡◌, true, false, drop, Option, Some, None, option_map, refl, sym, ap, ◌∙◌, arith}
use Rattle.std.specs.Prelude.{slice_index_or}
use Rattle.std.specs.Option.{is_some, option_or}
use Rattle.rv_fields.specs.Effect.{Effect}
use Rattle.trace_text.specs.Text.{step_fields}
use Rattle.trace_replay.specs.declared.verdict.LineField.{LineField}
use Rattle.trace_replay.specs.Comparing.{Difference, compared_fields, field_differs, fields_differ}
use Rattle.trace_replay.specs.Shown.{field_text}

-- the field at a place and those behind it
pub next_field : (line k : ℕ) (field : LineField) (t f : Effect) → k < 8
    → fields_differ line (drop k compared_fields) (drop k (step_fields t)) (drop k (step_fields f))
    ≡ option_or (field_differs line (slice_index_or compared_fields k field) (field_text (slice_index_or compared_fields k field) t) (field_text (slice_index_or compared_fields k field) f))
    (fields_differ line (drop (k + 1) compared_fields) (drop (k + 1) (step_fields t)) (drop (k + 1) (step_fields f)))
next_field line zero field t f few = refl
next_field line (suc zero) field t f few = refl
next_field line (suc (suc zero)) field t f few = refl
next_field line (suc (suc (suc zero))) field t f few = refl
next_field line (suc (suc (suc (suc zero)))) field t f few = refl
next_field line (suc (suc (suc (suc (suc zero))))) field t f few = refl
next_field line (suc (suc (suc (suc (suc (suc zero)))))) field t f few = refl
next_field line (suc (suc (suc (suc (suc (suc (suc zero))))))) field t f few = refl
next_field line (suc (suc (suc (suc (suc (suc (suc (suc k)))))))) field t f few = absurd (omega (arith, few))

some_first : {A B : Type 0} (f : A → B) (o : Option A) (rest : Option B) → is_some o ≡ true → option_or (option_map f o) rest ≡ option_map f o
some_first f None rest is = absurd cc
some_first f (Some a) rest is = refl

none_first : {A B : Type 0} (f : A → B) (o : Option A) (rest : Option B) → is_some o ≡ false → option_or (option_map f o) rest ≡ rest
none_first f None rest is = refl
none_first f (Some a) rest is = absurd cc

module _ {A : Type 0} (line k : ℕ) (field : LineField) (t f : Effect) (seen : A → Difference) (o : Option A) where
  abbrev behind : Option Difference
  behind = fields_differ line (drop (k + 1) compared_fields) (drop (k + 1) (step_fields t)) (drop (k + 1) (step_fields f))

  abbrev here : Option Difference
  here = field_differs line (slice_index_or compared_fields k field) (field_text (slice_index_or compared_fields k field) t) (field_text (slice_index_or compared_fields k field) f)

  -- the field at the place differs first
  pub next_is : k < 8 → option_map seen o ≡ here → is_some o ≡ true
      → fields_differ line (drop k compared_fields) (drop k (step_fields t)) (drop k (step_fields f)) ≡ option_map seen o
  next_is few is some = next_field line k field t f few ∙ ap (λ d. option_or d behind) (sym is) ∙ some_first seen o behind some

  -- it doesn't differ
  pub next_is_not : k < 8 → option_map seen o ≡ here → is_some o ≡ false
      → fields_differ line (drop k compared_fields) (drop k (step_fields t)) (drop k (step_fields f)) ≡ behind
  next_is_not few is none = next_field line k field t f few ∙ ap (λ d. option_or d behind) (sym is) ∙ none_first seen o behind none
