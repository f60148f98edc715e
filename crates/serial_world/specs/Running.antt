-- The harts of a job at work, in one world.
use Rattle.std.specs.List.{AllByRecursion, sum_by}
use Rattle.std.specs.Prelude.{List, [], ◌∷◌, ◌++◌, Some, true, false, ◌≡◌, ◌+◌, ◌<◌, ◌^◌, ℕ, length, map, slice_get}
use Rattle.region_plan.specs.Plan.{Work, hart_count}
use Rattle.trace_text.specs.Traces.{KeepsRanges}
use Rattle.world_face.specs.Events.{Event, no_parts}
use Rattle.hart_task.specs.declared.log.Turned.{Turned}
use Rattle.hart_task.specs.declared.log.Turned.TheVariants as turned
use Rattle.hart_task.specs.Log.{LogSeen}
use Rattle.hart_task.specs.Schedule.{AreRising, FollowsList, has_ended}
use Rattle.hart_task.specs.Task.{Stands, TaskSeen, events_left, finished, task_seen}
use Rattle.serial_world.specs.declared.harts.Harts.{Harts}
use Rattle.serial_world.specs.World.{placed_of}

-- A hart's task, where all harts have come as far as these events.
pub record IsHartOf (work : Work) (seed : ℕ) (events : List Event) (h : ℕ) (t : TaskSeen) : Type 0 where
  pub task : Stands work t
  pub number : t.hart.number ≡ h
  pub drawn_by : t.draws.seed ≡ seed
  pub log : t.log.events ≡ placed_of h events
  pub ended : finished t.phase ≡ has_ended events h

-- The tasks of all harts, and the place of the next event. The places last for the events that are left.
pub record Running (work : Work) (seed : ℕ) (hart_tasks : List TaskSeen) (next : ℕ) (events : List Event) : Type 0 where
  pub count : length hart_tasks ≡ hart_count work
  pub members : AllByRecursion (λ (e : Event). e.hart < hart_count work) events
  pub parts : AllByRecursion (λ (e : Event). e.parts ≡ no_parts) events
  pub ranges : AllByRecursion (λ (e : Event). AllByRecursion KeepsRanges e.lines) events
  pub tasks : (h : ℕ) (t : TaskSeen) → slice_get hart_tasks h ≡ Some t → IsHartOf work seed events h t
  pub place : length events ≡ next
  pub room : length events + sum_by (events_left work) hart_tasks < 2 ^ 32

abbrev pub tasks_seen : Harts → List TaskSeen
tasks_seen harts = map task_seen harts.tasks.items

-- The harts have come as far as these events.
abbrev pub AreRunning : Work → ℕ → Harts → List Event → Type 0
AreRunning work seed harts events = Running work seed (tasks_seen harts) harts.world.place events

-- the harts have come as far as some events
abbrev pub AreUnderWay : Work → Harts → Type 0
AreUnderWay work harts = (seed : ℕ) × ((events : List Event) × AreRunning work seed harts events)

-- how many events are left until all harts are finished
abbrev pub all_left : Work → Harts → ℕ
all_left work harts = sum_by (events_left work) (tasks_seen harts)

-- From wherever the old harts have come, the new ones have come further by some events, of which this is known: it is told of the
-- events before and of those that were added.
abbrev pub Leads : Work → Harts → Harts → (List Event → List Event → Type 0) → Type 0
Leads work old new told = (seed : ℕ) (before : List Event) → AreRunning work seed old before
    → (added : List Event) × AreRunning work seed new (before ++ added) × told before added

-- what a turn of a hart adds
abbrev pub TakesTurn : ℕ → Turned → List Event → List Event → Type 0
TakesTurn h (turned.Event place) before added = (has_ended before h ≡ false) × ((e : Event) × (added ≡ e ∷ []) × (e.hart ≡ h))
TakesTurn h turned.Finished before added = (has_ended before h ≡ true) × (added ≡ [])

-- an entry of the list adds what it says: what follows the rest of the list behind it follows the whole list
abbrev pub TakesEntry : ℕ → ℕ → List Event → List Event → Type 0
TakesEntry harts h before added = (schedule : List ℕ) (events : List Event) → FollowsList harts (before ++ added) schedule events → FollowsList harts before (h ∷ schedule) (added ++ events)

-- a hart's turns up to its end
abbrev pub TakesAll : ℕ → List Event → List Event → Type 0
TakesAll h before added = AllByRecursion (λ (e : Event). e.hart ≡ h) added × (has_ended (before ++ added) h ≡ true)

-- the turns of the harts below one, up to their ends, in rising order
pub record TakesAllBelow (harts : ℕ) (before added : List Event) : Type 0 where
  pub rising : AreRising 0 added
  pub members : AllByRecursion (λ (e : Event). e.hart < harts) added
  pub ended : (h : ℕ) → h < harts → has_ended (before ++ added) h ≡ true

-- each hart has made its ending step
abbrev pub AreFinished : Harts → Type 0
AreFinished harts = AllByRecursion (λ (t : TaskSeen). finished t.phase ≡ true) (tasks_seen harts)

-- what each hart has done
abbrev pub logs_kept : Harts → List LogSeen
logs_kept harts = map (λ (t : TaskSeen). t.log) (tasks_seen harts)
