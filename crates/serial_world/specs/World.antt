-- The events of a world at their places.
use Rattle.std.specs.Prelude.{List, ◌≡◌, ℕ, length}
use Rattle.world_face.specs.Events.{Event, Placed}
use Rattle.hart_task.specs.Log.{events_of}
use Rattle.hart_task.specs.Logs.{numbered, of_hart}

-- the events at the places 0, 1, 2 and so on
abbrev pub in_places : List Event → List Placed
in_places events = numbered 0 events

-- those of a hart, at their places among all
abbrev pub placed_of : ℕ → List Event → List Placed
placed_of h events = of_hart h (in_places events)

-- so many events, each at its place
pub record AreInTurn (place : ℕ) (placed : List Placed) : Type 0 where
  pub in_turn : placed ≡ in_places (events_of placed)
  pub many : length placed ≡ place
