-- In which order harts take their turns.
use Rattle.std.specs.Prelude.{Bool, true, false, not, ℕ, ◌≡◌, ◌%◌, ◌≤◌, ◌⊎◌, ◌&&◌, ◌==◌, List, [], ◌∷◌, ◌++◌, filter, length, Some, nat_lt, slice_get}
use Rattle.std.specs.List.{list_any, range_with_len}
use Rattle.choice_tree.specs.Draws.{word_of}
use Rattle.trace_text.specs.Lines.{Line, request, picked, weighed, fixed, given, settled, touched, made, found, ending, done, refused}
use Rattle.world_face.specs.Events.{Event}

-- the line tells a hart's last step
abbrev pub is_ending : Line → Bool
is_ending (request hart k kind) = false
is_ending (picked hart tree leaf word) = false
is_ending (weighed hart tree path weight) = false
is_ending (fixed hart register value) = false
is_ending (given hart object page frame) = false
is_ending (settled hart space entry) = false
is_ending (touched hart at bytes) = false
is_ending (made e) = false
is_ending (found e) = false
is_ending (ending e) = true
is_ending (done hart k) = false
is_ending (refused hart k cause preamble) = false

abbrev pub ends_hart : Event → Bool
ends_hart e = list_any is_ending e.lines

-- behind these events a hart is finished
abbrev pub has_ended : List Event → ℕ → Bool
has_ended before h = list_any (λ (e : Event). (e.hart == h) && ends_hart e) before

-- the harts come one after another, in rising order
abbrev pub AreRising : ℕ → List Event → Type 0
AreRising least [] = Unit {0}
AreRising least (e ∷ es) = (least ≤ e.hart) × AreRising e.hart es

-- An entry gives its hart the next turn; that of a hart that is finished or isn't there is passed over.
abbrev pub gives_turn : ℕ → List Event → ℕ → Bool
gives_turn harts before h = nat_lt h harts && not (has_ended before h)

-- Behind some events, of so many harts, the harts take turns as the list says: its entries without those that are passed over, and
-- then each hart that isn't finished, in rising order.
abbrev pub FollowsList : ℕ → List Event → List ℕ → List Event → Type 0
FollowsList harts before [] events = AreRising 0 events
FollowsList harts before (h ∷ schedule) events =
    ((gives_turn harts before h ≡ false) × FollowsList harts before schedule events)
    ⊎ ((gives_turn harts before h ≡ true) × ((e : Event) × (rest : List Event) × (events ≡ e ∷ rest) × (e.hart ≡ h) × FollowsList harts (before ++ e ∷ []) schedule rest))

-- the harts that aren't finished, in rising order
abbrev pub unfinished : ℕ → List Event → List ℕ
unfinished harts before = filter (λ h. not (has_ended before h)) (range_with_len 0 harts)

-- the stream from which a serial schedule is drawn
abbrev pub schedule_stream : ℕ
schedule_stream = 4096

-- Behind some events, each turn is the one of the unfinished hart whose index is the stream's next word modulo their number.
abbrev pub FollowsSeed : ℕ → ℕ → List Event → List Event → Type 0
FollowsSeed harts seed before [] = Unit {0}
FollowsSeed harts seed before (e ∷ es) =
    (slice_get (unfinished harts before) (word_of seed schedule_stream (length before) % length (unfinished harts before)) ≡ Some e.hart)
    × FollowsSeed harts seed (before ++ e ∷ []) es
