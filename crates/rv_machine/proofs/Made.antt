-- Harts as resets make them, and the machine after a turn.
use Rattle.std.proofs.Common.{◌≡◌, ℕ, ◌<◌, List, length, set, Some, eqb, cond, sym, ap, ◌∙◌, inl, inr, eq-eqb, slice_index}
use Rattle.std.specs.List.{slice_get}
use Rattle.std.specs.Option.{option_map_or}
use Rattle.std.proofs.lemmas.Bool.{cases_eq, ne_eqb}
use Rattle.rv_step.specs.declared.hart.Hart.{Hart}
use Rattle.rv_step.specs.Views.{hart_seen}
use Rattle.rv_machine.specs.declared.reset.Reset.{Reset}
use Rattle.rv_machine.specs.Views.{absent_hart, hart_in, reset_hart}
use Rattle.rv_fields.proofs.Lists.{get_of_set_other, get_of_set_same}

-- the hart is as its reset makes it
pub record IsMade (resets : List Reset) (h : ℕ) (hart : Hart) : Type 0 where
  pub reset : Reset
  pub given : slice_get resets h ≡ Some reset
  pub seen : hart_seen hart ≡ reset_hart h reset
  pub number : hart.number ≡ h
  pub zero : slice_index hart.x 0 ≡ 0

-- so many of them are made
pub record AreMade (resets : List Reset) (count : ℕ) (harts : List Hart) : Type 0 where
  pub long : length harts ≡ count
  pub each : (h : ℕ) (hart : Hart) → slice_get harts h ≡ Some hart → IsMade resets h hart

pub harts_updated : (harts : List Hart) (i : ℕ) (new : Hart) (h : ℕ) → i < length harts
    → hart_in (set harts i new) h ≡ cond (eqb h i) (hart_seen new) (hart_in harts h)
harts_updated harts i new h below =
    elim (cases_eq h i) [
      | inl same ↦
          ap (λ k. option_map_or hart_seen (slice_get (set harts i new) k) absent_hart) same
          ∙ ap (λ o. option_map_or hart_seen o absent_hart) (get_of_set_same harts i new below)
          ∙ ap (λ b. cond b (hart_seen new) (hart_in harts h)) (sym (eq-eqb h i same))
      | inr apart ↦
          ap (λ o. option_map_or hart_seen o absent_hart) (get_of_set_other harts i new h apart)
          ∙ ap (λ b. cond b (hart_seen new) (hart_in harts h)) (sym (ne_eqb h i apart))
    ]
