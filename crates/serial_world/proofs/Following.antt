-- Turns that follow a list.
use Rattle.std.proofs.Common.{ℕ, ◌+◌, ◌<◌, ◌≤◌, ◌≡◌, ◌⊎◌, inl, inr, ◌&&◌, true, false, eqb, not, List, [], ◌∷◌, ◌++◌, append_assoc, refl, sym, ap, subst, ◌∙◌, arith}
use Rattle.std.specs.List.{AllByRecursion}
use Rattle.std.proofs.lemmas.Bool.{cases_eq, lt-ltb, or_left}
use Rattle.std.proofs.lemmas.List.{append-nil}
use Rattle.std.proofs.lemmas.List.Folds.{list_any-append}
use Rattle.world_face.specs.Events.{Event}
use Rattle.hart_task.specs.declared.log.Turned.{Turned}
use Rattle.hart_task.specs.declared.log.Turned.TheVariants as turned
use Rattle.hart_task.specs.Schedule.{AreRising, FollowsList, ends_hart, gives_turn, has_ended}
use Rattle.serial_world.specs.Running.{TakesAll, TakesAllBelow, TakesEntry, TakesTurn}
use Rattle.serial_world.proofs.Turning.{all_more}

-- ---- an entry

pub entry_taken : (harts h : ℕ) (turn : Turned) (before added : List Event) → h < harts → TakesTurn h turn before added → TakesEntry harts h before added
entry_taken harts h (turned.Event place) before added member takes schedule events follows =
    let e : Event = takes.1.0 in
    let is : added ≡ e ∷ [] = takes.1.1 in
    let gives : gives_turn harts before h ≡ true = ap (λ t. t && not (has_ended before h)) (lt-ltb h harts member) ∙ ap not takes.0 in
    inr (gives, (e, events, ap (λ l. l ++ events) is, takes.1.2, subst (λ l. FollowsList harts (before ++ l) schedule events) is follows))
entry_taken harts h turned.Finished before added member takes schedule events follows =
    let gives : gives_turn harts before h ≡ false = ap (λ t. t && not (has_ended before h)) (lt-ltb h harts member) ∙ ap not takes.0 in
    let none : added ≡ [] = takes.1 in
    let follows_on : FollowsList harts before schedule events = subst (λ l. FollowsList harts l schedule events) (ap (λ l. before ++ l) none ∙ append-nil before) follows in
    inl (gives, subst (λ l. FollowsList harts before schedule (l ++ events)) (sym none) follows_on)

-- ---- one hart after another

pub all_more_of : (h : ℕ) (turn : Turned) (place : ℕ) (before first then : List Event) → turn ≡ turned.Event place → AllByRecursion (λ (e : Event). e.hart ≡ h) first → TakesTurn h turn before then
    → AllByRecursion (λ (e : Event). e.hart ≡ h) (first ++ then)
all_more_of h turn place before first then is all takes =
    let takes_one : TakesTurn h (turned.Event place) before then = subst (λ t. TakesTurn h t before then) is takes in
    let e : Event = takes_one.1.0 in
    subst (λ l. AllByRecursion (λ (e : Event). e.hart ≡ h) (first ++ l)) (sym takes_one.1.1) (all_more (λ (e : Event). e.hart ≡ h) first e all takes_one.1.2)

pub all_at_end : (h : ℕ) (turn : Turned) (before first then : List Event) → ((place : ℕ) → turn ≡ turned.Event place → ⊥) → AllByRecursion (λ (e : Event). e.hart ≡ h) first → TakesTurn h turn (before ++ first) then
    → TakesAll h before (first ++ then)
all_at_end h (turned.Event place) before first then none all takes = absurd (none place refl)
all_at_end h turned.Finished before first then none all takes =
    let same : first ++ then ≡ first = ap (λ l. first ++ l) takes.1 ∙ append-nil first in
    subst (TakesAll h before) (sym same) (all, takes.0)

all_both : (P : Event → Type 0) (xs ys : List Event) → AllByRecursion P xs → AllByRecursion P ys → AllByRecursion P (xs ++ ys)
all_both P [] ys all more = more
all_both P (x ∷ xs) ys all more = (all.0, all_both P xs ys all.1 more)

all_as : (P Q : Event → Type 0) (xs : List Event) → ((e : Event) → P e → Q e) → AllByRecursion P xs → AllByRecursion Q xs
all_as P Q [] so all = tt
all_as P Q (x ∷ xs) so all = (so x all.0, all_as P Q xs so all.1)

rising_one : (least h : ℕ) (ys : List Event) → least ≤ h → AllByRecursion (λ (e : Event). e.hart ≡ h) ys → AreRising least ys
rising_one least h [] above all = tt
rising_one least h (y ∷ ys) above all = (omega (arith, above, all.0), rising_one y.hart h ys (omega (arith, all.0)) all.1)

rising_both : (least h : ℕ) (xs ys : List Event) → least ≤ h → AreRising least xs → AllByRecursion (λ (e : Event). e.hart < h) xs → AllByRecursion (λ (e : Event). e.hart ≡ h) ys → AreRising least (xs ++ ys)
rising_both least h [] ys above rising below all = rising_one least h ys above all
rising_both least h (x ∷ xs) ys above rising below all = (rising.0, rising_both x.hart h xs ys (omega (arith, below.0)) rising.1 below.1 all)

-- what has ended stays so
ended_stays : (before more : List Event) (h : ℕ) → has_ended before h ≡ true → has_ended (before ++ more) h ≡ true
ended_stays before more h ended = list_any-append (λ (x : Event). eqb x.hart h && ends_hart x) before more ∙ or_left (has_ended before h) (has_ended more h) ended

pub none_below : (before : List Event) → TakesAllBelow 0 before []
none_below before = record { rising = tt; members = tt; ended = λ h below. absurd (omega (arith, below)) }

pub all_below_more : (h : ℕ) (before first then : List Event) → TakesAllBelow h before first → TakesAll h (before ++ first) then → TakesAllBelow (h + 1) before (first ++ then)
all_below_more h before first then below takes = record {
  rising = rising_both 0 h first then (omega arith) below.rising below.members takes.0;
  members = all_both (λ (e : Event). e.hart < h + 1) first then
      (all_as (λ (e : Event). e.hart < h) (λ (e : Event). e.hart < h + 1) first (λ e few. omega (arith, few)) below.members)
      (all_as (λ (e : Event). e.hart ≡ h) (λ (e : Event). e.hart < h + 1) then (λ e same. omega (arith, same)) takes.0);
  ended = λ k few. ended k few (cases_eq k h);
}
  where
    ended : (k : ℕ) → k < h + 1 → (k ≡ h) ⊎ (k ≡ h → ⊥) → has_ended (before ++ (first ++ then)) k ≡ true
    ended k few (inl same) = ap (λ n. has_ended (before ++ (first ++ then)) n) same ∙ ap (λ l. has_ended l h) (sym (append_assoc before first then)) ∙ takes.1
    ended k few (inr other) = ap (λ l. has_ended l k) (sym (append_assoc before first then)) ∙ ended_stays (before ++ first) then k (below.ended k (omega (arith, few, other)))
