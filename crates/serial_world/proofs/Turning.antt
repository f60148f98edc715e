-- A turn of one hart leaves all harts running.
use Rattle.std.proofs.Common.{ℕ, zero, suc, ◌<◌, ◌≡◌, ◌≢◌, ◌⊎◌, inl, inr, ◌||◌, ◌&&◌, Bool, true, false, eqb, List, [], ◌∷◌, ◌++◌, get_or, length, map, Some, Result, Ok, Err, IfOk, refl, sym, ap, subst, ◌∙◌, arith}
use Rattle.std.specs.List.{AllByRecursion, sum_by}
use Rattle.std.specs.Prelude.{option_map, slice_get}
use Rattle.std.proofs.Math.ListN.{set, length-set}
use Rattle.std.proofs.lemmas.Bool.{cases_eq, eq-eqb, ne_eqb}
use Rattle.std.proofs.lemmas.List.{append-nil, length-append, map-set}
use Rattle.std.proofs.lemmas.List.Folds.{list_any-append}
use Rattle.std.proofs.lemmas.List.Sums.{sum_by-set}
use Rattle.std.proofs.lemmas.Option.{get_or_from_slice_get, slice_get-map, slice_get_read, slice_get_within}
use Rattle.region_plan.specs.Plan.{Work, hart_count}
use Rattle.trace_text.specs.Traces.{KeepsRanges}
use Rattle.world_face.specs.Events.{Event, no_parts}
use Rattle.hart_task.specs.declared.log.Turned.{Turned}
use Rattle.hart_task.specs.declared.log.Turned.TheVariants as turned
use Rattle.hart_task.specs.Schedule.{ends_hart, has_ended}
use Rattle.hart_task.specs.declared.task.HartTask.{HartTask}
use Rattle.hart_task.specs.Task.{IsTurn, Stands, TaskSeen, events_left, finished, task_seen}
use Rattle.serial_world.specs.Running.{IsHartOf, Running, TakesTurn}
use Rattle.serial_world.specs.World.{AreInTurn, in_places, placed_of}
use Rattle.serial_world.proofs.Ending.{was_unfinished}
use Rattle.serial_world.proofs.Numbering.{in_turn_next, in_turn_now, placed, placed_of_other, placed_of_same}

-- ---- lists

pub all_more : {A : Type 0} (P : A → Type 0) (xs : List A) (x : A) → AllByRecursion P xs → P x → AllByRecursion P (xs ++ x ∷ [])
all_more P [] x all here = (here, tt)
all_more P (y ∷ ys) x all here = (all.0, all_more P ys x all.1 here)

get_set_same : {A : Type 0} (xs : List A) (i : ℕ) (x y : A) → slice_get (set xs i x) i ≡ Some y → x ≡ y
get_set_same [] i x y at = cc
get_set_same (z ∷ zs) zero x y at = cc
get_set_same (z ∷ zs) (suc i) x y at = get_set_same zs i x y at

get_set_other : {A : Type 0} (xs : List A) (i k : ℕ) (x : A) → k ≢ i → slice_get (set xs i x) k ≡ slice_get xs k
get_set_other [] i k x other = refl
get_set_other (z ∷ zs) zero zero x other = absurd (other refl)
get_set_other (z ∷ zs) zero (suc k) x other = refl
get_set_other (z ∷ zs) (suc i) zero x other = refl
get_set_other (z ∷ zs) (suc i) (suc k) x other = get_set_other zs i k x (λ same. other (ap suc same))

set_same : {A : Type 0} (xs : List A) (i : ℕ) (x : A) → slice_get xs i ≡ Some x → set xs i x ≡ xs
set_same [] i x at = cc
set_same (z ∷ zs) zero x at = let same : z ≡ x = cc in ap (λ y. y ∷ zs) (sym same)
set_same (z ∷ zs) (suc i) x at = ap (λ l. z ∷ l) (set_same zs i x at)

-- ---- whether a hart has ended

ended_more : (before : List Event) (e : Event) (h : ℕ) → has_ended (before ++ e ∷ []) h ≡ (has_ended before h || ((eqb e.hart h && ends_hart e) || false))
ended_more before e h = list_any-append (λ (x : Event). eqb x.hart h && ends_hart x) before (e ∷ [])

pub ended_other : (before : List Event) (e : Event) (h : ℕ) → e.hart ≢ h → has_ended (before ++ e ∷ []) h ≡ has_ended before h
ended_other before e h other = ended_more before e h ∙ ap (λ t. has_ended before h || ((t && ends_hart e) || false)) (ne_eqb e.hart h other) ∙ or_nothing (has_ended before h)
  where
    or_nothing : (t : Bool) → (t || false) ≡ t
    or_nothing true = refl
    or_nothing false = refl

pub ended_by : (before : List Event) (e : Event) (h : ℕ) → e.hart ≡ h → has_ended before h ≡ false → has_ended (before ++ e ∷ []) h ≡ ends_hart e
ended_by before e h same unfinished =
    ended_more before e h ∙ ap (λ t. t || ((eqb e.hart h && ends_hart e) || false)) unfinished ∙ ap (λ t. (t && ends_hart e) || false) (eq-eqb e.hart h same) ∙ or_nothing (ends_hart e)
  where
    or_nothing : (t : Bool) → (t || false) ≡ t
    or_nothing true = refl
    or_nothing false = refl

-- ---- an event of one hart

module _ (work : Work) (seed next after place : ℕ) (all : List TaskSeen) (h : ℕ) (old new : TaskSeen) (events : List Event) (e : Event) where
  -- what the turn of the hart is
  pub record IsEventOf : Type 0 where
    pub stands : Stands work new
    pub number : new.hart.number ≡ old.hart.number
    pub same_seed : new.draws.seed ≡ old.draws.seed
    pub log : new.log.events ≡ old.log.events ++ placed place e ∷ []
    pub hart : e.hart ≡ old.hart.number
    pub parts : e.parts ≡ no_parts
    pub ranges : AllByRecursion KeepsRanges e.lines
    pub ends : ends_hart e ≡ finished new.phase
    pub takes : AreInTurn after (in_places events ++ placed place e ∷ [])
    pub nearer : events_left work new < events_left work old

  pub still_on : Running work seed all next events → slice_get all h ≡ Some old → IsEventOf → has_ended events h ≡ false
  still_on runs at is = let its = runs.tasks h old at in sym its.ended ∙ was_unfinished work old new (placed place e) its.task is.stands is.number is.same_seed is.log

  its_event : Running work seed all next events → slice_get all h ≡ Some old → IsEventOf → e.hart ≡ h
  its_event runs at is = is.hart ∙ (runs.tasks h old at).number

  the_hart : Running work seed all next events → slice_get all h ≡ Some old → IsEventOf → IsHartOf work seed (events ++ e ∷ []) h new
  the_hart runs at is =
      let its = runs.tasks h old at in
      let own = its_event runs at is in
      let took : place ≡ length events = (in_turn_next events e place after is.takes).0 in
      record {
        task = is.stands;
        number = is.number ∙ its.number;
        drawn_by = is.same_seed ∙ its.drawn_by;
        log = is.log ∙ ap (λ l. l ++ placed place e ∷ []) its.log ∙ ap (λ n. placed_of h events ++ placed n e ∷ []) took ∙ sym (placed_of_same h events e own);
        ended = sym is.ends ∙ sym (ended_by events e h own (still_on runs at is));
      }

  other_hart : (k : ℕ) (t : TaskSeen) → e.hart ≢ k → IsHartOf work seed events k t → IsHartOf work seed (events ++ e ∷ []) k t
  other_hart k t other its = record {
    task = its.task;
    number = its.number;
    drawn_by = its.drawn_by;
    log = its.log ∙ sym (placed_of_other k events e other);
    ended = its.ended ∙ sym (ended_other events e k other);
  }

  pub runs_on : Running work seed all next events → slice_get all h ≡ Some old → IsEventOf → Running work seed (set all h new) after (events ++ e ∷ [])
  runs_on runs at is =
      let within = slice_get_within all h old at in
      let own = its_event runs at is in
      let took = in_turn_next events e place after is.takes in
      record {
        count = length-set all h new ∙ runs.count;
        members = all_more (λ (x : Event). x.hart < hart_count work) events e runs.members (omega (arith, own, within, runs.count));
        parts = all_more (λ (x : Event). x.parts ≡ no_parts) events e runs.parts is.parts;
        ranges = all_more (λ (x : Event). AllByRecursion KeepsRanges x.lines) events e runs.ranges is.ranges;
        tasks = λ k t found. hart k t found (cases_eq h k);
        place = took.1;
        room =
            let sum = sum_by-set (events_left work) all h new old within in
            let here = ap (events_left work) (get_or_from_slice_get all h old old at) in
            let more = length-append events (e ∷ []) in
            let fits = runs.room in
            let less = is.nearer in
            omega (arith, sum, here, more, fits, less);
      }
    where
      hart : (k : ℕ) (t : TaskSeen) → slice_get (set all h new) k ≡ Some t → (h ≡ k) ⊎ (h ≡ k → ⊥) → IsHartOf work seed (events ++ e ∷ []) k t
      hart k t found (inl same) =
          let here : slice_get (set all h new) h ≡ Some t = ap (λ n. slice_get (set all h new) n) same ∙ found in
          let is_new : new ≡ t = get_set_same all h new t here in
          subst (λ n. IsHartOf work seed (events ++ e ∷ []) n t) same (subst (IsHartOf work seed (events ++ e ∷ []) h) is_new (the_hart runs at is))
      hart k t found (inr other) =
          let there : slice_get all k ≡ Some t = sym (get_set_other all h k new (λ same. other (sym same))) ∙ found in
          other_hart k t (λ same. other (sym (its_event runs at is) ∙ same)) (runs.tasks k t there)

-- ---- a turn

abbrev pub TurnedOn : Work → ℕ → ℕ → List TaskSeen → ℕ → Turned → List Event → Type 0
TurnedOn work seed after all h turn before = (added : List Event) × Running work seed all after (before ++ added) × TakesTurn h turn before added

pub turns_on : (work : Work) (seed next after : ℕ) (all : List TaskSeen) (h : ℕ) (old new : TaskSeen) (turn : Turned) (before : List Event)
    → Running work seed all next before → slice_get all h ≡ Some old → Stands work new → new.hart.number ≡ old.hart.number → new.draws.seed ≡ old.draws.seed
    → IsTurn turn old new (AreInTurn next) (AreInTurn after) → ((place : ℕ) → turn ≡ turned.Event place → events_left work new < events_left work old)
    → TurnedOn work seed after (set all h new) h turn before
turns_on work seed next after all h old new (turned.Event place) before runs at stands number same_seed is nearer =
    let e = is.0 in
    let stood : AreInTurn next (in_places before) = subst (λ n. AreInTurn n (in_places before)) runs.place (in_turn_now before) in
    let event : IsEventOf work seed next after place all h old new before e = record {
      stands = stands;
      number = number;
      same_seed = same_seed;
      log = is.1;
      hart = is.2;
      parts = is.3;
      ends = is.4;
      takes = is.5 (in_places before) stood;
      ranges = is.6;
      nearer = nearer place refl;
    } in (
      e ∷ [],
      runs_on work seed next after place all h old new before e runs at event,
      (still_on work seed next after place all h old new before e runs at event, (e, refl, is.2 ∙ (runs.tasks h old at).number)),
    )
turns_on work seed next after all h old new turned.Finished before runs at stands number same_seed is nearer =
    let stood : AreInTurn next (in_places before) = subst (λ n. AreInTurn n (in_places before)) runs.place (in_turn_now before) in
    let same : set all h new ≡ all = ap (λ t. set all h t) is.1 ∙ set_same all h old at in
    let none : before ++ [] ≡ before = append-nil before in
    let stays : next ≡ after = sym stood.many ∙ (is.2 (in_places before) stood).many in
    let ended : has_ended before h ≡ true = sym (runs.tasks h old at).ended ∙ ap finished is.0 in (
      [],
      subst (λ l. Running work seed l after (before ++ [])) (sym same) (subst (λ l. Running work seed all after l) (sym none) (subst (λ n. Running work seed all n before) stays runs)),
      (ended, refl),
    )

-- ---- in the code's tasks

pub task_at : (h i : ℕ) (tasks : List HartTask) (t : HartTask) → i ≡ h → h < length tasks → t ≡ get_or tasks i t → slice_get (map task_seen tasks) h ≡ Some (task_seen t)
task_at h i tasks t place within read =
    let at : t ≡ get_or tasks h t = read ∙ ap (λ n. get_or tasks n t) place in
    slice_get-map task_seen tasks h ∙ ap (option_map task_seen) (slice_get_read tasks (length tasks) h t refl within at)

module _ (work : Work) (next after h i : ℕ) (tasks : List HartTask) (old new : HartTask) where
  -- the task that was read, and what the turn made of it
  pub record TurnsTask : Type 0 where
    pub place : i ≡ h
    pub within : h < length tasks
    pub read : old ≡ get_or tasks i old
    pub stands : Stands work (task_seen new)
    pub number : new.hart.number ≡ old.hart.number
    pub same_seed : new.draws.seed ≡ old.draws.seed

  seen_set : TurnsTask → set (map task_seen tasks) h (task_seen new) ≡ map task_seen (set tasks i new)
  seen_set is = ap (λ n. set (map task_seen tasks) n (task_seen new)) (sym is.place) ∙ sym (map-set task_seen tasks i new)

  pub task_turns : {E : Type 0} (r : Result Turned E) → TurnsTask → IfOk r (λ turn. IsTurn turn (task_seen old) (task_seen new) (AreInTurn next) (AreInTurn after))
      → ((place : ℕ) → r ≡ Ok (turned.Event place) → events_left work (task_seen new) < events_left work (task_seen old))
      → IfOk r (λ turn. (seed : ℕ) (before : List Event) → Running work seed (map task_seen tasks) next before → TurnedOn work seed after (map task_seen (set tasks i new)) h turn before)
  task_turns (Err e) is turns nearer = tt
  task_turns (Ok turn) is turns nearer = λ seed before runs.
      subst (λ l. TurnedOn work seed after l h turn before) (seen_set is)
      (turns_on work seed next after (map task_seen tasks) h (task_seen old) (task_seen new) turn before runs (task_at h i tasks old is.place is.within is.read) is.stands is.number is.same_seed turns (λ place same. nearer place (ap Ok same)))

  pub task_nearer : TurnsTask → events_left work (task_seen new) < events_left work (task_seen old) → sum_by (events_left work) (map task_seen (set tasks i new)) < sum_by (events_left work) (map task_seen tasks)
  task_nearer is nearer =
      let all : List TaskSeen = map task_seen tasks in
      let at = task_at h i tasks old is.place is.within is.read in
      let sum = sum_by-set (events_left work) all h (task_seen new) (task_seen old) (slice_get_within all h (task_seen old) at) in
      let here = ap (events_left work) (get_or_from_slice_get all h (task_seen old) (task_seen old) at) in
      let same = ap (sum_by (events_left work)) (seen_set is) in
      omega (arith, sum, here, same, nearer)
