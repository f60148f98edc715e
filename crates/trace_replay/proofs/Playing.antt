-- The effects of a play from reset are what a trace can spell, and no play has others.
use Rattle.std.proofs.Common.{ℕ, ◌<◌, ◌≡◌, ◌^◌, true, cond, eqb, ◌≢◌, List, [], ◌∷◌, Option, Some, None, IfSome, refl, sym, ap, subst, ◌∙◌, arith, inl, inr}
use Rattle.std.specs.List.{AllByRecursion}
use Rattle.std.proofs.lemmas.Bool.Decides.{eqb_tells, nat_tests}
use Rattle.std.proofs.lemmas.Option.{same_Some}
use Rattle.rv_fields.specs.declared.access.Accessed.{Accessed}
use Rattle.rv_fields.specs.declared.mode.Mode.TheVariants.{U}
use Rattle.rv_fields.specs.declared.trap.Trap.{Trap}
use Rattle.rv_fields.specs.Effect.{Effect, Entry}
use Rattle.rv_fields.specs.Memory.{IsSize, in_ram}
use Rattle.rv_fields.specs.Play.{Machine, Plays, after_step}
use Rattle.rv_fields.specs.Ranges.{AccessInRange, AreBytes, EffectInRange, EntryInRange, FetchInRange, HartInRange, TrapInRange, WriteInRange}
use Rattle.rv_fields.specs.Step.{Stepped, step}
use Rattle.rv_fields.proofs.Opened.{step_leaves}
use Rattle.rv_fields.proofs.Ranges.{bytes_stay, ranges_stay}
use Rattle.trace_fields.specs.Readings.{sizes}
use Rattle.trace_fields.specs.Ranges.{IsAccess, IsAnyOf, IsEntry, IsTrap, IsWrite}
use Rattle.trace_replay.proofs.Spelt.{CanSpell}
use Rattle.trace_replay.proofs.Trails.{IsTold, step_told}

-- ---- what is in range can be spelled

ram_small : (at size : ℕ) → in_ram at size ≡ true → at < 2 ^ 64
ram_small at size is = grind (arith, nat_tests)

any_size : (size : ℕ) → IsSize size → IsAnyOf sizes size
any_size size (inl one) = subst (IsAnyOf sizes) (sym one) refl
any_size size (inr (inl two)) = subst (IsAnyOf sizes) (sym two) refl
any_size size (inr (inr (inl four))) = subst (IsAnyOf sizes) (sym four) refl
any_size size (inr (inr (inr eight))) = subst (IsAnyOf sizes) (sym eight) refl

fetch_spelled : (m : Option ℕ) → IfSome m FetchInRange → IfSome m (λ pa. pa < 2 ^ 64)
fetch_spelled None range = tt
fetch_spelled (Some pa) range = ram_small pa 4 range.in_it

write_spelled : (m : Option (ℕ × ℕ)) → IfSome m WriteInRange → IfSome m IsWrite
write_spelled None range = tt
write_spelled (Some w) range = record { some = omega (arith, range.written); register = range.register; value = range.value }

access_spelled : (m : Option Accessed) → IfSome m AccessInRange → IfSome m IsAccess
access_spelled None range = tt
access_spelled (Some a) range = record {
  va = range.va;
  pa = ram_small a.pa a.size range.in_it;
  size = any_size a.size range.size;
  read = range.read;
  wrote = range.wrote;
}

trail_spelled : (trail : List Entry) → AllByRecursion EntryInRange trail → AllByRecursion IsEntry trail
trail_spelled [] range = tt
trail_spelled (e ∷ trail) range = (record { at = ram_small e.at 8 range.0.in_it; pte = range.0.pte }, trail_spelled trail range.1)

trap_spelled : (m : Option Trap) → IfSome m TrapInRange → ((t : Trap) → m ≡ Some t → t.to ≢ U) → IfSome m IsTrap
trap_spelled None range handled = tt
trap_spelled (Some t) range handled = record { cause = range.cause; epc = range.epc; tval = range.tval; to = handled t refl }

step_spelled : (harts : ℕ) (s : Stepped) → s.effect.hart < harts → EffectInRange s.effect → IsTold s → CanSpell harts s.effect
step_spelled harts s member range told = record {
  hart = member;
  pc = range.pc;
  pa = fetch_spelled s.effect.pa range.pa;
  word = range.word;
  rd = write_spelled s.effect.rd range.rd;
  access = access_spelled s.effect.access range.access;
  trail = (omega (arith, told.trail), trail_spelled s.effect.trail range.trail);
  trap = trap_spelled s.effect.trap range.trap told.handled;
}

-- ---- plays

-- the memory has bytes, and each of so many harts has its number and is in range
pub record MachineInRange (harts : ℕ) (m : Machine) : Type 0 where
  pub bytes : AreBytes m.seen.byte
  pub numbers : (h : ℕ) → h < harts → (m.harts h).number ≡ h
  pub own : (h : ℕ) → h < harts → HartInRange (m.harts h)

after_in_range : (harts h : ℕ) (m : Machine) (s : Stepped) → h < harts → MachineInRange harts m → step m.seen (m.harts h) ≡ Some s → MachineInRange harts (after_step m h s)
after_in_range harts h m s member range does = record {
  bytes = bytes_stay m.seen h s.effect.access range.bytes;
  numbers = λ k below. number k below;
  own = λ k below. own k below;
}
  where
    number : (k : ℕ) → k < harts → (cond (eqb k h) s.hart (m.harts k)).number ≡ k
    number k below = elim (eqb_tells k h) [
      | inl same ↦ ap (λ t. (cond t s.hart (m.harts k)).number) same.0 ∙ (step_leaves m.seen (m.harts h) s does).number ∙ range.numbers h member ∙ sym same.1
      | inr other ↦ ap (λ t. (cond t s.hart (m.harts k)).number) other.0 ∙ range.numbers k below
    ]

    own : (k : ℕ) → k < harts → HartInRange (cond (eqb k h) s.hart (m.harts k))
    own k below = elim (eqb_tells k h) [
      | inl same ↦ subst (λ t. HartInRange (cond t s.hart (m.harts k))) (sym same.0) (ranges_stay m.seen (m.harts h) s range.bytes (range.own h member) does).0
      | inr other ↦ subst (λ t. HartInRange (cond t s.hart (m.harts k))) (sym other.0) (range.own k below)
    ]

pub play_spelled : (harts : ℕ) (order : List ℕ) (effects : List Effect) (m end : Machine) → MachineInRange harts m → AllByRecursion (λ h. h < harts) order
    → Plays m order effects end → AllByRecursion (CanSpell harts) effects
play_spelled harts [] [] m end range named plays = tt
play_spelled harts [] (e ∷ effects) m end range named plays = absurd plays
play_spelled harts (h ∷ order) [] m end range named plays = absurd plays
play_spelled harts (h ∷ order) (e ∷ effects) m end range named plays =
    let s = plays.0 in
    let is : (m.harts h).number ≡ h = range.numbers h named.0 in
    let number : s.effect.hart ≡ h = (step_leaves m.seen (m.harts h) s plays.1).effect_hart ∙ is in
    let spelled = step_spelled harts s (subst (λ k. k < harts) (sym number) named.0) (ranges_stay m.seen (m.harts h) s range.bytes (range.own h named.0) plays.1).1
    (step_told m.seen (m.harts h) s plays.1) in (
      subst (CanSpell harts) plays.2 spelled,
      play_spelled harts order effects (after_step m h s) end (after_in_range harts h m s named.0 range plays.1) named.1 plays.3,
    )

-- a machine plays in one way
pub one_play : (order : List ℕ) (effects others : List Effect) (m end stop : Machine) → Plays m order effects end → Plays m order others stop → effects ≡ others
one_play [] [] [] m end stop first second = refl
one_play [] [] (o ∷ others) m end stop first second = absurd second
one_play [] (e ∷ effects) others m end stop first second = absurd first
one_play (h ∷ order) [] others m end stop first second = absurd first
one_play (h ∷ order) (e ∷ effects) [] m end stop first second = absurd second
one_play (h ∷ order) (e ∷ effects) (o ∷ others) m end stop first second =
    let same : first.0 ≡ second.0 = same_Some first.0 second.0 (sym first.1 ∙ second.1) in
    let head : e ≡ o = sym first.2 ∙ ap (λ (s : Stepped). s.effect) same ∙ second.2 in
    let rest = one_play order effects others (after_step m h second.0) end stop (subst (λ s. Plays (after_step m h s) order effects end) same first.3) second.3 in
    ap (λ q. q ∷ effects) head ∙ ap (λ q. o ∷ q) rest
