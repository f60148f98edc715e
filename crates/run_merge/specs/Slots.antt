-- Slots for the events of a run, one for each place.
use Rattle.std.specs.Prelude.{ℕ, ◌+◌, ◌<◌, List, [], ◌∷◌, length, map, Option, Some, None, set}
use Rattle.std.specs.List.{AllByRecursion, flat_map}
use Rattle.std.specs.Option.{option_map}
use Rattle.trace_text.specs.Lines.{Line}
use Rattle.world_face.specs.declared.event.Event as code
use Rattle.world_face.specs.Events.{Event, Placed}
use Rattle.world_face.specs.Views.{event_seen}
use Rattle.hart_task.specs.declared.log.HartLog.{HartLog}
use Rattle.hart_task.specs.Log.{LogSeen, log_seen}

-- slots without where their events lie in memory
abbrev pub slots_seen : List (Option code.Event) → List (Option Event)
slots_seen slots = map (option_map event_seen) slots

abbrev pub logs_seen : List HartLog → List LogSeen
logs_seen logs = map log_seen logs

-- how many events the logs have
abbrev pub event_count : List LogSeen → ℕ
event_count [] = 0
event_count (log ∷ logs) = length log.events + event_count logs

-- each event has its place in so many slots
abbrev pub FitIn : ℕ → List Placed → Type 0
FitIn count placed = AllByRecursion (λ (p : Placed). p.place < count) placed

-- the slots with each event in that of its place
abbrev pub slotted : List Placed → List (Option Event) → List (Option Event)
slotted [] slots = slots
slotted (p ∷ ps) slots = slotted ps (set slots p.place (Some p.event))

-- and with the events of all logs
abbrev pub all_slotted : List LogSeen → List (Option Event) → List (Option Event)
all_slotted [] slots = slots
all_slotted (log ∷ logs) slots = all_slotted logs (slotted log.events slots)

-- the lines of the event in a slot; none where it is empty
abbrev pub slot_lines : Option Event → List Line
slot_lines (Some event) = event.lines
slot_lines None = []

abbrev pub slots_lines : List (Option Event) → List Line
slots_lines slots = flat_map slot_lines slots
