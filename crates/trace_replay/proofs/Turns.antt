-- One turn after another, and what is judged of them.
use Rattle.std.proofs.Common.{ℕ, ◌+◌, ◌<◌, ◌≤◌, ◌≡◌, ◌≢◌, Bool, true, false, cond, eqb, List, [], ◌∷◌, ◌++◌, length, length-take, append-nil, Option, Some, None, Result, Ok, Err, OnOk, IfOk, IfErr, IfSome, refl, sym, ap, subst, ◌∙◌, arith, inl, inr}
use Rattle.std.specs.Prelude.{nat_le, slice_get, slice_set}
use Rattle.std.proofs.lemmas.Bool.Decides.{eqb_tells}
use Rattle.std.proofs.lemmas.Option.{same_Some}
use Rattle.rv_fields.specs.Effect.{Effect}
use Rattle.rv_fields.specs.Play.{Machine, Plays, after_step}
use Rattle.rv_fields.specs.Step.{Stepped, step}
use Rattle.rv_fields.specs.declared.mode.Mode.TheVariants.{U}
use Rattle.rv_fields.specs.declared.trap.Trap.{Trap}
use Rattle.rv_step.specs.declared.hart.Stepped as code
use Rattle.rv_step.specs.Views.{effect_seen}
use Rattle.rv_machine.specs.Views.{IsMachineTurn}
use Rattle.rv_fields.proofs.Lists.{get_of_set_other, get_of_set_same}
use Rattle.sv_walk.specs.declared.trail.Trail.{Trail}
use Rattle.sv_walk.specs.Views.{entries_of, trail_seen}
use Rattle.trace_text.specs.Reading.{Unread}
use Rattle.boot_words.specs.Booting.{boot_steps}
use Rattle.boot_words.specs.Passing.{behind_boots, effects_by}
use Rattle.trace_replay.specs.declared.boot.Boot.{Boot}
use Rattle.trace_replay.specs.declared.comparison.Comparison.{Comparison}
use Rattle.trace_replay.specs.declared.judge.Judge.{Judge}
use Rattle.trace_replay.specs.Judging.{HasJudgedSoFar, IsBootOf, IsCompared}
use Rattle.trace_replay.proofs.Boots.{behind_more, by_more, stays}
use Rattle.trace_replay.proofs.Entries.{entries_long}
use Rattle.trace_replay.proofs.Trails.{step_told}

-- ---- results

pub on_ok : {A E : Type 0} (r : Result A E) {P Q : Type 0} → (P → Q) → OnOk r P → OnOk r Q
on_ok (Ok a) f p = f p
on_ok (Err e) f p = tt

pub on_err : {A E : Type 0} (r : Result A E) {P Q : E → Type 0} → ((e : E) → P e → Q e) → IfErr r P → IfErr r Q
on_err (Ok a) f p = tt
on_err (Err e) f p = f e p

pub if_ok : {A E : Type 0} (r : Result A E) {P Q : A → Type 0} → ((a : A) → P a → Q a) → IfOk r P → IfOk r Q
if_ok (Ok a) f p = f a p
if_ok (Err e) f p = tt

-- ---- plays

pub plays_on : (order : List ℕ) (effects : List Effect) (h : ℕ) (m mid : Machine) (s : Stepped) → Plays m order effects mid → step mid.seen (mid.harts h) ≡ Some s
    → Plays m (order ++ h ∷ []) (effects ++ s.effect ∷ []) (after_step mid h s)
plays_on [] [] h m mid s plays does = subst (λ n. Plays n (h ∷ []) (s.effect ∷ []) (after_step mid h s)) plays (s, does, refl, refl)
plays_on [] (e ∷ effects) h m mid s plays does = absurd plays
plays_on (g ∷ order) [] h m mid s plays does = absurd plays
plays_on (g ∷ order) (e ∷ effects) h m mid s plays does = (plays.0, plays.1, plays.2, plays_on order effects h (after_step m g plays.0) mid s plays.3 does)

-- what a turn tells has a short trail, and no trap that mode U handles
pub turn_told : (hart : ℕ) (told : code.Stepped) (old new : Machine) → IsMachineTurn hart told old new
    → (length (trail_seen told.trail) ≤ 3) × IfSome told.trap (λ trap. trap.to ≢ U)
turn_told hart told old new is =
    let tells = step_told old.seen (old.harts hart) is.stepped is.step in (
      subst (λ (e : Effect). length e.trail ≤ 3) is.effect tells.trail,
      handled_by told.trap (λ t some. tells.handled t (ap (λ (e : Effect). e.trap) is.effect ∙ some)),
    )
  where
    handled_by : (m : Option Trap) → ((t : Trap) → m ≡ Some t → t.to ≢ U) → IfSome m (λ trap. trap.to ≢ U)
    handled_by None h = tt
    handled_by (Some t) h = h t refl

-- the effect of a turn, and the machine behind it
pub turns_on : (order : List ℕ) (effects : List Effect) (hart : ℕ) (told : code.Stepped) (m old new : Machine) → Plays m order effects old → IsMachineTurn hart told old new
    → Plays m (order ++ hart ∷ []) (effects ++ effect_seen hart told ∷ []) new
turns_on order effects hart told m old new plays is =
    subst (λ (e : Effect). Plays m (order ++ hart ∷ []) (effects ++ e ∷ []) new) is.effect
    (subst (Plays m (order ++ hart ∷ []) (effects ++ is.stepped.effect ∷ [])) (sym is.machine) (plays_on order effects hart m old is.stepped plays is.step))

-- a trail with few entries
pub few_entries : (trail : Trail) → length trail.at ≡ 4 → length trail.pte ≡ 4 → length (trail_seen trail) ≤ 3 → trail.len ≤ 4
few_entries trail at pte few =
    omega (arith, few, length-take trail.len (entries_of trail.at trail.pte), entries_long trail.at trail.pte (omega (arith, at, pte)), at)

-- ---- judging

module _ (start : Unread) (effects : List Effect) (e : Effect) (judge : Judge) (is : HasJudgedSoFar start effects judge) where
  -- a hart that isn't the one that stepped
  other : (h : ℕ) (boot : Boot) → eqb e.hart h ≡ false → IsBootOf boot (effects_by h effects) → IsBootOf boot (effects_by h (effects ++ e ∷ []))
  other h boot apart kept =
      subst (IsBootOf boot) (sym (by_more e h effects ∙ ap (λ b. effects_by h effects ++ cond b (e ∷ []) []) apart ∙ append-nil (effects_by h effects))) kept

  -- the one that stepped
  own : (h : ℕ) (boot : Boot) → eqb e.hart h ≡ true → IsBootOf boot (effects_by h effects ++ e ∷ []) → IsBootOf boot (effects_by h (effects ++ e ∷ []))
  own h boot same kept = subst (IsBootOf boot) (sym (by_more e h effects ∙ ap (λ b. effects_by h effects ++ cond b (e ∷ []) []) same)) kept

  behind_is : (b : Bool) → nat_le boot_steps (length (effects_by e.hart effects)) ≡ b → behind_boots [] (effects ++ e ∷ []) ≡ behind_boots [] effects ++ cond b (e ∷ []) []
  behind_is b is =
      let none_before : length (effects_by e.hart []) + length (effects_by e.hart effects) ≡ length (effects_by e.hart effects) = omega arith in
      behind_more e [] effects ∙ ap (λ n. behind_boots [] effects ++ cond (nat_le boot_steps n) (e ∷ []) []) none_before
      ∙ ap (λ b. behind_boots [] effects ++ cond b (e ∷ []) []) is

  -- its boot is over, and the step is compared
  pub judged_behind : (new : Comparison) → nat_le boot_steps (length (effects_by e.hart effects)) ≡ true → IsCompared start (behind_boots [] effects ++ e ∷ []) new
      → HasJudgedSoFar start (effects ++ e ∷ []) (record { boots = judge.boots; comparison = new })
  judged_behind new over compared = record {
    boots = λ h boot at. elim (eqb_tells e.hart h) [
      | inl same ↦ own h boot same.0 (stays boot (effects_by h effects) (e ∷ []) (is.boots h boot at) (subst (λ k. nat_le boot_steps (length (effects_by k effects)) ≡ true) same.1 over))
      | inr apart ↦ other h boot apart.0 (is.boots h boot at)
    ];
    compared = subst (λ es. IsCompared start es new) (sym (behind_is true over)) compared;
  }

  -- its boot isn't over, and has one step more
  pub judged_boot : (place : ℕ) (more : Boot) → place ≡ e.hart → place < length judge.boots → nat_le boot_steps (length (effects_by e.hart effects)) ≡ false
      → IsBootOf more (effects_by e.hart effects ++ e ∷ [])
      → HasJudgedSoFar start (effects ++ e ∷ []) (record { boots = slice_set judge.boots place more; comparison = judge.comparison })
  judged_boot place more here below booting kept = record {
    boots = λ h boot at. elim (eqb_tells e.hart h) [
      | inl same ↦
          let set_here : slice_get (slice_set judge.boots place more) h ≡ Some more =
          subst (λ k. slice_get (slice_set judge.boots place more) k ≡ Some more) (here ∙ same.1) (get_of_set_same judge.boots place more below) in
          let is_more : boot ≡ more = same_Some boot more (sym at ∙ set_here) in
          own h boot same.0 (subst (λ b. IsBootOf b (effects_by h effects ++ e ∷ [])) (sym is_more)
          (subst (λ k. IsBootOf more (effects_by k effects ++ e ∷ [])) same.1 kept))
      | inr apart ↦ other h boot apart.0 (is.boots h boot (sym (get_of_set_other judge.boots place more h (λ h_is. apart.1 (sym here ∙ sym h_is))) ∙ at))
    ];
    compared = subst (λ es. IsCompared start es judge.comparison) (sym (behind_is false booting ∙ append-nil (behind_boots [] effects))) is.compared;
  }
