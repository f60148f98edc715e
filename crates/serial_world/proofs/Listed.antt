-- A run that follows a list so far.
use Rattle.std.proofs.Common.{ℕ, ◌+◌, ◌<◌, ◌≡◌, List, [], ◌∷◌, ◌++◌, append_assoc, ap, arith, drop, drop-cons, get_or, length, subst, sym, ◌∙◌}
use Rattle.std.proofs.Math.Numerals.{add-one}
use Rattle.std.proofs.lemmas.List.{drop_all}
use Rattle.region_plan.specs.Plan.{Work, hart_count}
use Rattle.world_face.specs.Events.{Event}
use Rattle.hart_task.specs.Schedule.{FollowsList}
use Rattle.serial_world.specs.declared.harts.Harts.{Harts}
use Rattle.serial_world.specs.Running.{AreRunning, AreUnderWay, Leads, TakesAllBelow, TakesEntry}
use Rattle.serial_world.proofs.Leaving.{AllEnded}

-- The harts have taken their turns up to an entry: what follows the rest of the list behind them follows the whole list.
pub record ListedSoFar (work : Work) (seed : ℕ) (harts : Harts) (schedule : List ℕ) (index : ℕ) : Type 0 where
  pub events : List Event
  pub running : AreRunning work seed harts events
  pub follows : (rest : List Event) → FollowsList (hart_count work) events (drop index schedule) rest → FollowsList (hart_count work) [] schedule (events ++ rest)

pub none_listed : (work : Work) (seed : ℕ) (harts : Harts) (schedule : List ℕ) → AreRunning work seed harts [] → ListedSoFar work seed harts schedule 0
none_listed work seed harts schedule runs = record { events = []; running = runs; follows = λ rest follows. follows }

pub way_listed : (work : Work) (seed : ℕ) (harts : Harts) (schedule : List ℕ) (index : ℕ) → ListedSoFar work seed harts schedule index → AreUnderWay work harts
way_listed work seed harts schedule index so = (seed, (so.events, so.running))

pub one_listed : (work : Work) (seed : ℕ) (old new : Harts) (schedule : List ℕ) (index h : ℕ) → ListedSoFar work seed old schedule index → index < length schedule → h ≡ get_or schedule index 0
    → Leads work old new (TakesEntry (hart_count work) h) → ListedSoFar work seed new schedule (index + 1)
one_listed work seed old new schedule index h so within entry leads =
    let l = leads seed so.events so.running in
    record {
      events = so.events ++ l.0;
      running = l.1;
      follows = λ rest follows.
          let here : h ∷ drop (index + 1) schedule ≡ drop index schedule =
          ap (λ n. n ∷ drop (index + 1) schedule) entry ∙ ap (λ n. get_or schedule index 0 ∷ drop n schedule) (add-one index) ∙ sym (drop-cons schedule index 0 within) in
          let all = so.follows (l.0 ++ rest) (subst (λ s. FollowsList (hart_count work) so.events s (l.0 ++ rest)) here (l.2 (drop (index + 1) schedule) rest follows)) in
          subst (FollowsList (hart_count work) [] schedule) (sym (append_assoc so.events l.0 rest)) all;
    }

-- the run at its end
pub record ListedRun (work : Work) (seed : ℕ) (harts : Harts) (schedule : List ℕ) : Type 0 where
  pub events : List Event
  pub running : AreRunning work seed harts events
  pub ended : AllEnded (hart_count work) events
  pub follows : FollowsList (hart_count work) [] schedule events

pub all_listed : (work : Work) (seed : ℕ) (old new : Harts) (schedule : List ℕ) (index : ℕ) → ListedSoFar work seed old schedule index → length schedule ≡ index
    → Leads work old new (TakesAllBelow (hart_count work)) → ListedRun work seed new schedule
all_listed work seed old new schedule index so end leads =
    let l = leads seed so.events so.running in
    let none : drop index schedule ≡ [] = ap (λ n. drop n schedule) (sym end) ∙ drop_all (length schedule) schedule (omega arith) in
    record {
      events = so.events ++ l.0;
      running = l.1;
      ended = l.2.ended;
      follows = so.follows l.0 (subst (λ s. FollowsList (hart_count work) so.events s l.0) (sym none) l.2.rising);
    }
