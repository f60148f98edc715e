-- The events that the types of this crate hold.
use Rattle.std.specs.Prelude.{ℕ, ◌+◌, ◌≤◌, List, map, vec_len, vec_capacity}
use Rattle.trace_text.specs.Views.{lines_seen}
use Rattle.world_face.specs.declared.event.Asked as asked
use Rattle.world_face.specs.declared.event.Event as code
use Rattle.world_face.specs.declared.event.Placed as placed
use Rattle.world_face.specs.Events.{Asked, Event, Placed, nothing_asked}

abbrev pub asked_seen : asked.Asked → Asked
asked_seen a = nothing_asked

abbrev pub event_seen : code.Event → Event
event_seen e = record { hart = e.hart; parts = e.parts; asked = asked_seen e.asked; lines = lines_seen e.lines.items }

abbrev pub placed_seen : placed.Placed → Placed
placed_seen p = record { place = p.place; event = event_seen p.event }

abbrev pub all_placed : List placed.Placed → List Placed
all_placed events = map placed_seen events

-- room for so many lines
abbrev pub HasRoomForLines : ℕ → code.Event → Type 0
HasRoomForLines count event = vec_len event.lines + count ≤ vec_capacity event.lines
