-- Boots, one step more, and what is behind them.
use Rattle.std.proofs.Common.{ℕ, zero, suc, ◌+◌, ◌<◌, ◌≤◌, ◌≡◌, Bool, true, false, ◌&&◌, cond, eqb, List, [], ◌∷◌, ◌++◌, length, length-append, Option, Some, None, refl, sym, ap, ◌∙◌, arith, ◌-◌}
use Rattle.std.specs.Fmt.{decimal}
use Rattle.std.specs.Prelude.{is_none, nat_le, slice_get, slice_index_or, take}
use Rattle.std.specs.Option.{option_map_or, option_or}
use Rattle.std.proofs.lemmas.Bool.Decides.{nat_tests}
use Rattle.std.proofs.lemmas.List.{take-append-le, take_all}
use Rattle.std.proofs.lemmas.Option.{slice_get-get_or, slice_get_past}
use Rattle.rv_fields.specs.Effect.{Effect}
use Rattle.boot_words.specs.Booting.{boot_steps}
use Rattle.boot_words.specs.Passing.{behind_boots, effects_by}
use Rattle.trace_replay.specs.declared.boot.Boot.{Boot}
use Rattle.trace_replay.specs.declared.verdict.LineField.TheVariants as field
use Rattle.trace_replay.specs.Comparing.{Difference, begins_with_boot, boots_differ, is_mret, returns, untrapped}
use Rattle.trace_replay.specs.Judging.{AreBoots, IsBootOf}

-- one effect more at the end
module _ (e : Effect) where
  pub by_more : (h : ℕ) (effects : List Effect) → effects_by h (effects ++ e ∷ []) ≡ effects_by h effects ++ cond (eqb e.hart h) (e ∷ []) []
  by_more h [] = refl
  by_more h (x ∷ effects) = of (eqb x.hart h) (by_more h effects)
    where
      of : (b : Bool) → effects_by h (effects ++ e ∷ []) ≡ effects_by h effects ++ cond (eqb e.hart h) (e ∷ []) []
          → cond b (x ∷ effects_by h (effects ++ e ∷ [])) (effects_by h (effects ++ e ∷ [])) ≡ cond b (x ∷ effects_by h effects) (effects_by h effects) ++ cond (eqb e.hart h) (e ∷ []) []
      of true same = ap (λ q. x ∷ q) same
      of false same = same

  pub untrapped_more : (effects : List Effect) → untrapped (effects ++ e ∷ []) ≡ cond (eqb (untrapped effects) (length effects) && is_none e.trap) (suc (untrapped effects)) (untrapped effects)
  untrapped_more [] = refl
  untrapped_more (x ∷ effects) = of (is_none x.trap) (is_none e.trap) (untrapped effects) (length effects) (untrapped (effects ++ e ∷ [])) (untrapped_more effects)
    where
      of : (b last : Bool) (some all more : ℕ) → more ≡ cond (eqb some all && last) (suc some) some
          → cond b (suc more) 0 ≡ cond (eqb (cond b (suc some) 0) (suc all) && last) (suc (cond b (suc some) 0)) (cond b (suc some) 0)
      of true last some all more is = ap suc is ∙ inside (eqb some all && last) ∙ ap (λ b. cond (b && last) (suc (suc some)) (suc some)) next
        where
          next : eqb some all ≡ eqb (suc some) (suc all)
          next = grind (arith, nat_tests)

          inside : (b : Bool) → suc (cond b (suc some) some) ≡ cond b (suc (suc some)) (suc some)
          inside true = refl
          inside false = refl
      of false last some all more is = ap (λ b. cond (b && last) 1 0) never
        where
          never : false ≡ eqb 0 (suc all)
          never = grind (arith, nat_tests)

  pub behind_more : (before effects : List Effect) → behind_boots before (effects ++ e ∷ [])
      ≡ behind_boots before effects ++ cond (nat_le boot_steps (length (effects_by e.hart before) + length (effects_by e.hart effects))) (e ∷ []) []
  behind_more before [] = of (length (effects_by e.hart before)) (length (effects_by e.hart before) + 0) (omega arith)
    where
      of : (n m : ℕ) → n ≡ m → cond (nat_le boot_steps n) (e ∷ []) [] ≡ cond (nat_le boot_steps m) (e ∷ []) []
      of n m same = ap (λ k. cond (nat_le boot_steps k) (e ∷ []) []) same
  behind_more before (x ∷ effects) =
      of (nat_le boot_steps (length (effects_by x.hart before)))
      (behind_more (x ∷ before) effects
      ∙ ap (λ k. behind_boots (x ∷ before) effects ++ cond (nat_le boot_steps k) (e ∷ []) []) (moved (eqb x.hart e.hart)))
    where
      tail : List Effect
      tail = cond (nat_le boot_steps (length (effects_by e.hart before) + length (effects_by e.hart (x ∷ effects)))) (e ∷ []) []

      moved : (b : Bool) → length (cond b (x ∷ effects_by e.hart before) (effects_by e.hart before)) + length (effects_by e.hart effects)
          ≡ length (effects_by e.hart before) + length (cond b (x ∷ effects_by e.hart effects) (effects_by e.hart effects))
      moved true = omega arith
      moved false = refl

      of : (b : Bool) → behind_boots (x ∷ before) (effects ++ e ∷ []) ≡ behind_boots (x ∷ before) effects ++ tail
          → cond b (x ∷ behind_boots (x ∷ before) (effects ++ e ∷ [])) (behind_boots (x ∷ before) (effects ++ e ∷ []))
          ≡ cond b (x ∷ behind_boots (x ∷ before) effects) (behind_boots (x ∷ before) effects) ++ tail
      of true same = ap (λ q. x ∷ q) same
      of false same = same

-- ---- places

at_end : {A : Type 0} (xs : List A) (x : A) → slice_get (xs ++ x ∷ []) (length xs) ≡ Some x
at_end [] x = refl
at_end (y ∷ xs) x = at_end xs x

in_front : {A : Type 0} (xs ys : List A) (k : ℕ) → k < length xs → slice_get (xs ++ ys) k ≡ slice_get xs k
in_front [] ys k below = absurd (omega (arith, below))
in_front (x ∷ xs) ys zero below = refl
in_front (x ∷ xs) ys (suc k) below = in_front xs ys k (omega (arith, below))

-- ---- what is kept of a boot

-- a boot with one step more, which is not over
abbrev pub boot_more : Boot → Effect → Boot
boot_more boot e = record {
  steps = boot.steps + 1;
  untrapped = cond (eqb boot.untrapped boot.steps && is_none e.trap) (boot.untrapped + 1) boot.untrapped;
  returned = nat_le boot_steps (boot.steps + 1) && is_mret e;
}

-- so many steps are those that were made, as long as there are fewer than in a boot
all_steps : (boot : Boot) (effects : List Effect) → IsBootOf boot effects → boot.steps < boot_steps → (boot.steps ≡ length effects) × (length effects < boot_steps)
all_steps boot effects is few = of (nat_le boot_steps (length effects)) refl is.steps
  where
    of : (b : Bool) → b ≡ nat_le boot_steps (length effects) → boot.steps ≡ cond b boot_steps (length effects) → (boot.steps ≡ length effects) × (length effects < boot_steps)
    of true e same = absurd (omega (arith, same, few))
    of false e same = (same, omega (arith, same, few))

counted : (n : ℕ) → n < boot_steps → n + 1 ≡ cond (nat_le boot_steps (n + 1)) boot_steps (n + 1)
counted n few = of (nat_le boot_steps (n + 1)) refl
  where
    of : (b : Bool) → b ≡ nat_le boot_steps (n + 1) → n + 1 ≡ cond b boot_steps (n + 1)
    of true e = let enough : boot_steps ≤ n + 1 = grind (arith, nat_tests, e) in omega (arith, enough, few)
    of false e = refl

returned_more : (effects : List Effect) (e : Effect) → length effects < boot_steps → (nat_le boot_steps (length effects + 1) && is_mret e) ≡ returns (effects ++ e ∷ [])
returned_more effects e few = of (nat_le boot_steps (length effects + 1)) refl
  where
    of : (b : Bool) → b ≡ nat_le boot_steps (length effects + 1) → (b && is_mret e) ≡ returns (effects ++ e ∷ [])
    of true is =
        let last : length effects ≡ boot_steps - 1 = (let enough : boot_steps ≤ length effects + 1 = grind (arith, nat_tests, is) in omega (arith, enough, few)) in
        sym (ap (λ k. option_map_or is_mret (slice_get (effects ++ e ∷ []) k) false) (sym last) ∙ ap (λ o. option_map_or is_mret o false) (at_end effects e))
    of false is =
        let less : length effects + 1 ≤ boot_steps - 1 = (let below : length effects + 1 < boot_steps = grind (arith, nat_tests, is) in omega (arith, below)) in
        sym (ap (λ o. option_map_or is_mret o false) (slice_get_past (effects ++ e ∷ []) (boot_steps - 1) (omega (arith, less, length-append effects (e ∷ [])))))

pub stepped : (boot : Boot) (effects : List Effect) (e : Effect) → IsBootOf boot effects → boot.steps < boot_steps → IsBootOf (boot_more boot e) (effects ++ e ∷ [])
stepped boot effects e is few =
    let all = all_steps boot effects is few in
    let long : length (effects ++ e ∷ []) ≡ length effects + 1 = length-append effects (e ∷ []) in
    let kept : boot.untrapped ≡ untrapped effects = is.untrapped_are ∙ ap untrapped (take_all boot_steps effects (omega (arith, all.1))) in
    record {
      steps = ap (λ n. n + 1) all.0 ∙ counted (length effects) all.1 ∙ ap (λ n. cond (nat_le boot_steps n) boot_steps n) (sym long);
      untrapped_are = ap (λ n. cond (eqb n boot.steps && is_none e.trap) (n + 1) n) kept
          ∙ ap (λ n. cond (eqb (untrapped effects) n && is_none e.trap) (untrapped effects + 1) (untrapped effects)) all.0
          ∙ same (eqb (untrapped effects) (length effects) && is_none e.trap)
          ∙ sym (untrapped_more e effects) ∙ ap untrapped (sym (take_all boot_steps (effects ++ e ∷ []) (omega (arith, long, all.1))));
      returned = ap (λ n. nat_le boot_steps (n + 1) && is_mret e) all.0 ∙ returned_more effects e all.1;
    }
  where
    same : (b : Bool) → cond b (untrapped effects + 1) (untrapped effects) ≡ cond b (suc (untrapped effects)) (untrapped effects)
    same true = omega arith
    same false = refl

-- nothing behind a boot changes what is kept of it
pub stays : (boot : Boot) (effects more : List Effect) → IsBootOf boot effects → nat_le boot_steps (length effects) ≡ true → IsBootOf boot (effects ++ more)
stays boot effects more is over =
    let enough : boot_steps ≤ length effects = grind (arith, nat_tests, over) in
    let longer : nat_le boot_steps (length (effects ++ more)) ≡ true = grind (arith, nat_tests, length-append effects more, enough) in
    record {
      steps = is.steps ∙ ap (λ b. cond b boot_steps (length effects)) over ∙ sym (ap (λ b. cond b boot_steps (length (effects ++ more))) longer);
      untrapped_are = is.untrapped_are ∙ ap untrapped (sym (take-append-le boot_steps effects more enough));
      returned = is.returned ∙ ap (λ o. option_map_or is_mret o false) (sym (in_front effects more (boot_steps - 1) (omega (arith, enough))));
    }

-- ---- the boots of all harts

abbrev pub no_boot : Boot
no_boot = record { steps = 0; untrapped = 0; returned = false }

-- what is kept of a hart
pub kept_at : (boots : List Boot) (effects : List Effect) (hart place : ℕ) → place ≡ hart → hart < length boots → AreBoots boots effects
    → IsBootOf (slice_index_or boots place no_boot) (effects_by hart effects)
kept_at boots effects hart place at below are =
    are hart (slice_index_or boots place no_boot) (slice_get-get_or boots hart no_boot below ∙ ap (λ k. Some (slice_index_or boots k no_boot)) (sym at))

module _ (hart count : ℕ) (effects : List Effect) where
  pub boot_fails : (boot : Boot) → IsBootOf boot (effects_by hart effects) → begins_with_boot (effects_by hart effects) ≡ false
      → boots_differ hart (suc count) effects ≡ Some (record { line = 1; field = field.Boot; told = decimal hart; found = decimal boot.untrapped })
  boot_fails boot is fails =
      ap (λ b. of b (untrapped (take boot_steps (effects_by hart effects)))) fails ∙ ap (of false) (sym is.untrapped_are)
    where
      of : Bool → ℕ → Option Difference
      of b n = option_or (cond b None (Some (record { line = 1; field = field.Boot; told = decimal hart; found = decimal n }))) (boots_differ (hart + 1) count effects)

  pub boot_passes : begins_with_boot (effects_by hart effects) ≡ true → boots_differ hart (suc count) effects ≡ boots_differ (hart + 1) count effects
  boot_passes passes =
      ap (λ b. option_or (cond b None (Some (record { line = 1; field = field.Boot; told = decimal hart; found = decimal (untrapped (take boot_steps (effects_by hart effects))) })))
      (boots_differ (hart + 1) count effects)) passes
