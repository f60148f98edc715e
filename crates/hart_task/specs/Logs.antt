-- The logs of all harts, as one run by place.
use Rattle.std.specs.Prelude.{ℕ, ◌≡◌, ◌+◌, ◌<◌, List, [], ◌∷◌, Some, filter, length, slice_get}
use Rattle.std.specs.List.{AllByRecursion}
use Rattle.region_plan.specs.Plan.{Work, hart_count}
use Rattle.trace_text.specs.Traces.{KeepsRanges}
use Rattle.world_face.specs.Events.{Event, Placed, is_of_hart, no_parts}
use Rattle.hart_task.specs.Log.{LogSeen}
use Rattle.hart_task.specs.Task.{IsLogOf}

-- events at the places from one on
abbrev pub numbered : ℕ → List Event → List Placed
numbered place [] = []
numbered place (e ∷ es) = record { place = place; event = e } ∷ numbered (place + 1) es

-- those of a hart
abbrev pub of_hart : ℕ → List Placed → List Placed
of_hart h placed = filter (λ (p : Placed). is_of_hart h p.event) placed

-- The logs are those of all harts to their ends, and the events are theirs in the order of their places.
pub record AreLogsOf (work : Work) (seed : ℕ) (logs : List LogSeen) (events : List Event) : Type 0 where
  pub count : length logs ≡ hart_count work
  pub members : AllByRecursion (λ (e : Event). e.hart < hart_count work) events
  pub parts : AllByRecursion (λ (e : Event). e.parts ≡ no_parts) events
  pub ranges : AllByRecursion (λ (e : Event). AllByRecursion KeepsRanges e.lines) events
  pub by_place : (h : ℕ) (log : LogSeen) → slice_get logs h ≡ Some log → log.events ≡ of_hart h (numbered 0 events)
  pub logs_are : (h : ℕ) (log : LogSeen) → slice_get logs h ≡ Some log → IsLogOf work seed h log
