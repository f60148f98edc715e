-- What a hart's log holds.
use Rattle.std.specs.Prelude.{ℕ, ◌+◌, ◌≤◌, List, map, vec_len, vec_capacity}
use Rattle.rv_fields.specs.Hart.{Registers}
use Rattle.value_file.specs.Values.{initial_of, present_of}
use Rattle.world_face.specs.Events.{Event, Placed}
use Rattle.world_face.specs.Views.{all_placed}
use Rattle.hart_task.specs.declared.log.HartLog.{HartLog}

-- a log without where it lies in memory
pub record LogSeen : Type 0 where
  pub events : List Placed
  pub words : List ℕ
  -- the starting values of its registers, and the present ones
  pub initial : Registers
  pub present : Registers

abbrev pub log_seen : HartLog → LogSeen
log_seen log = record {
  events = all_placed log.events.items;
  words = log.words.items;
  initial = initial_of log.values;
  present = present_of log.values;
}

-- its events without their places
abbrev pub events_of : List Placed → List Event
events_of placed = map (λ (p : Placed). p.event) placed

-- room for an event, and for a word
abbrev pub HasRoomForEvent : HartLog → Type 0
HasRoomForEvent log = vec_len log.events + 1 ≤ vec_capacity log.events

pub record HasLogRoom (log : HartLog) : Type 0 where
  pub for_event : HasRoomForEvent log
  pub for_word : vec_len log.words + 1 ≤ vec_capacity log.words
