-- What a play from reset has to be to pass: each hart boots, and then retires what is told.
use Rattle.std.specs.Prelude.{ℕ, zero, suc, ◌≡◌, ◌+◌, ◌-◌, ◌<◌, ◌≤◌, ◌==◌, List, [], ◌∷◌, ◌++◌, filter, length, replicate, slice_get, take, nat_le, Some, None, false, if◌then◌else◌}
use Rattle.std.specs.List.{AllByRecursion}
use Rattle.rv_fields.specs.Effect.{Effect}
use Rattle.rv_fields.specs.Memory.{Bytes}
use Rattle.rv_fields.specs.Play.{IsReset, Machine, Plays}
use Rattle.boot_words.specs.Boot.{mret, spelled}
use Rattle.boot_words.specs.Booting.{boot_steps}

-- the boots of so many harts from one on, one after another
abbrev pub boots_from : ℕ → ℕ → List ℕ
boots_from hart zero = []
boots_from hart (suc count) = replicate boot_steps hart ++ boots_from (hart + 1) count

-- The machine has these bytes, no link stands, and each of so many harts is at some reset.
pub record IsAtReset (harts : ℕ) (memory : Bytes) (machine : Machine) : Type 0 where
  pub bytes : (a : ℕ) → machine.seen.byte a ≡ memory a
  pub links : (h g : ℕ) → machine.seen.link h g ≡ Some false
  pub resets : (h : ℕ) → h < harts → IsReset h (machine.harts h)

-- the effects of a hart's steps
abbrev pub effects_by : ℕ → List Effect → List Effect
effects_by h effects = filter (λ (e : Effect). e.hart == h) effects

-- The first steps of these are a boot: none of them takes a trap, and the last is mret.
pub record BeginsWithBoot (effects : List Effect) : Type 0 where
  pub enough : boot_steps ≤ length effects
  pub untrapped : AllByRecursion (λ (e : Effect). e.trap ≡ None) (take boot_steps effects)
  pub returns : (e : Effect) → slice_get effects (boot_steps - 1) ≡ Some e → e.word ≡ Some (spelled mret)

-- Of effects that follow others, those before which their hart has made as many steps as a boot takes.
abbrev pub behind_boots : List Effect → List Effect → List Effect
behind_boots before [] = []
behind_boots before (e ∷ effects) =
    if nat_le boot_steps (length (effects_by e.hart before)) then e ∷ behind_boots (e ∷ before) effects else behind_boots (e ∷ before) effects

-- The harts step in this order, each boots first, and behind the boots they do exactly what is told.
pub record PlaysAsTold (harts : ℕ) (order : List ℕ) (told : List Effect) (machine : Machine) : Type 0 where
  pub effects : List Effect
  pub end : Machine
  pub plays : Plays machine order effects end
  pub boots : (h : ℕ) → h < harts → BeginsWithBoot (effects_by h effects)
  pub behind : behind_boots [] effects ≡ told
