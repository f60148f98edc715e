-- A hart's task: the state of its hart's machine at which it stands, and what a turn makes of it.
use Rattle.std.specs.Prelude.{Bool, true, false, ℕ, ◌≡◌, ◌+◌, ◌-◌, ◌*◌, ◌<◌, ◌≤◌, ◌==◌, List, [], ◌∷◌, ◌++◌, drop, filter, is_none, length, Option, Some, None, slice_get, if◌then◌else◌}
use Rattle.std.specs.List.{AllByRecursion}
use Rattle.std.specs.Option.{option_map_or}
use Rattle.rv_fields.specs.declared.trap.Trap.{Trap}
use Rattle.rv_fields.specs.Decode.{Decoded, decoded}
use Rattle.rv_fields.specs.Effect.{Effect}
use Rattle.rv_fields.specs.Hart.{Hart}
use Rattle.rv_fields.specs.Laws.{TellsMore, with_registers}
use Rattle.rv_fields.specs.Step.{step, with_write}
use Rattle.rv_step.specs.Views.{hart_seen}
use Rattle.choice_tree.specs.Draws.{Draws, skipped}
use Rattle.region_plan.specs.Plan.{Work, hart_count, plan_of}
use Rattle.region_plan.specs.Request.{Request}
use Rattle.region_plan.specs.Rules.{IsMakeableRequest, most_requests}
use Rattle.region_plan.specs.Script.{ScriptItem, script_of}
use Rattle.region_plan.specs.Views.{request_seen}
use Rattle.region_plan.specs.declared.request.Request as code
use Rattle.trace_fields.specs.declared.request.Cause.TheVariants.{NoRegister}
use Rattle.trace_text.specs.Lines.{Line, starting, done, refused, request as begins}
use Rattle.trace_text.specs.Traces.{KeepsRanges}
use Rattle.boot_words.specs.Layout.{m_handler_at}
use Rattle.world_face.specs.Events.{Event, Placed, no_parts, nothing_asked}
use Rattle.hart_task.specs.declared.log.Turned.{Turned}
use Rattle.hart_task.specs.declared.log.Turned.TheVariants as turned
use Rattle.hart_task.specs.declared.task.HartTask.{HartTask}
use Rattle.hart_task.specs.declared.task.Phase as task
use Rattle.hart_task.specs.declared.task.Phase.TheVariants as tasks
use Rattle.hart_task.specs.Acts.{Came, Fixing, fixing_lines, is_found, is_last, is_made, request_kind, step_line}
use Rattle.hart_task.specs.Asking.{IsWordFor, asked_word, demand_asked, is_served, worded}
use Rattle.hart_task.specs.Bus.{word_seen}
use Rattle.hart_task.specs.Log.{LogSeen, events_of, log_seen}
use Rattle.hart_task.specs.OneRun.{IsFinishedRun, RunsTo, all_lines}
use Rattle.hart_task.specs.Schedule.{ends_hart}
use Rattle.hart_task.specs.State.{HartState, Phase, at_end, between, entries_at_first, finding, handled, is_done, making}
use Rattle.hart_task.specs.Stepping.{fixed_in, late_registers, named_by}

-- a task without where it lies in memory
pub record TaskSeen : Type 0 where
  pub hart : Hart
  pub phase : task.Phase
  pub begun : ℕ
  pub draws : Draws
  pub log : LogSeen

abbrev pub task_seen : HartTask → TaskSeen
task_seen t = record { hart = hart_seen t.hart; phase = t.phase; begun = t.begun; draws = t.draws; log = log_seen t.log }

-- ---- the state at which it stands

abbrev pub phase_seen : task.Phase → Phase
phase_seen tasks.Between = between
phase_seen (tasks.Making m) = making (record { k = m.k; words = m.word ∷ []; sequel = is_done (demand_asked (request_seen m.request)) })
phase_seen (tasks.Handling g) = finding g.k handled
phase_seen tasks.Finished = at_end

-- the requests of a hart, in their order
abbrev pub script : Work → ℕ → List ScriptItem
script work h = script_of (plan_of work h).template

abbrev pub state_of : Work → TaskSeen → HartState
state_of work t = record {
  hart = with_registers t.log.present t.hart;
  picks = record { seed = t.draws.seed; stream = 2 * t.hart.number; drawn = 0 };
  draws = t.draws;
  words = λ index. slice_get t.log.words index;
  entries = entries_at_first work (plan_of work t.hart.number).space;
  left = drop t.begun (script work t.hart.number);
  count = t.begun;
  steps = length t.log.events - t.begun;
  loop = None;
  phase = phase_seen t.phase;
}

-- the word under way is one for a request that can be made, or pc is at the handler's next word
abbrev pub IsInPhase : task.Phase → ℕ → Type 0
IsInPhase tasks.Between pc = Unit {0}
IsInPhase (tasks.Making m) pc = IsMakeableRequest (request_seen m.request) × IsWordFor (asked_word (request_seen m.request)) m.word
IsInPhase (tasks.Handling g) pc = pc ≡ m_handler_at + 4 * g.next
IsInPhase tasks.Finished pc = Unit {0}

-- The task stands where a run of its hart's machine leads.
pub record Stands (work : Work) (t : TaskSeen) : Type 0 where
  pub run : RunsTo work t.draws.seed t.hart.number (events_of t.log.events) (state_of work t)
  pub member : t.hart.number < hart_count work
  -- what is known of the hart: its registers are those that have a value
  pub held : TellsMore t.log.present t.hart.x
  -- the lines fix what starts with a value
  pub fresh : (r : ℕ) → t.log.present r ≡ None → t.log.initial r ≡ None
  pub initial : (r : ℕ) → t.log.initial r ≡ starting (all_lines (events_of t.log.events)) t.hart.number r
  pub stream : t.draws.stream ≡ 2 * t.hart.number + 1
  -- no event draws more than four words
  pub few : t.draws.drawn ≤ 4 * length t.log.events
  -- each event begins a request or is a step
  pub events : t.begun ≤ length t.log.events
  pub phase : IsInPhase t.phase t.hart.pc

abbrev pub IsTaskOf : Work → HartTask → Type 0
IsTaskOf work t = Stands work (task_seen t)

-- the most events of a hart: a request begins, makes its word, and may step the six of its handler
abbrev pub most_events : ℕ
most_events = 8 * most_requests + 1

-- A finished hart's log: its events are a run from start to end, its words are those that the run made, no more than a page
-- holds, and its values were fixed by the lines alone.
pub record IsLogOf (work : Work) (seed h : ℕ) (log : LogSeen) : Type 0 where
  pub run : IsFinishedRun work seed h (events_of log.events)
  pub words : run.end.words ≡ (λ index. slice_get log.words index)
  pub values : (r : ℕ) → log.initial r ≡ starting (all_lines (events_of log.events)) h r
  pub room : length log.words ≤ 1024
  pub few : length log.events ≤ most_events

-- how many events are left until the hart is finished: eight for each request, and the ending step
abbrev pub phase_left : task.Phase → ℕ
phase_left tasks.Between = 1
phase_left (tasks.Making m) = 8
phase_left (tasks.Handling g) = 7 - g.next
phase_left tasks.Finished = 0

abbrev pub events_left : Work → TaskSeen → ℕ
events_left work t = 8 * (length (script work t.hart.number) - t.begun) + phase_left t.phase

-- ---- what a turn is

abbrev pub finished : task.Phase → Bool
finished tasks.Between = false
finished (tasks.Making m) = false
finished (tasks.Handling g) = false
finished tasks.Finished = true

-- A turn is one event of the hart, at the place that it took in the world; or there was none, since the hart was finished. What a
-- world stood for before and stands for now is handed in.
abbrev pub IsTurn : Turned → TaskSeen → TaskSeen → (List Placed → Type 0) → (List Placed → Type 0) → Type 0
IsTurn (turned.Event place) old new before now = (event : Event)
    × (new.log.events ≡ old.log.events ++ record { place = place; event = event } ∷ [])
    × (event.hart ≡ old.hart.number)
    × (event.parts ≡ no_parts)
    × (ends_hart event ≡ finished new.phase)
    × ((events : List Placed) → before events → now (events ++ record { place = place; event = event } ∷ []))
    × AllByRecursion KeepsRanges event.lines
IsTurn turned.Finished old new before now = (old.phase ≡ tasks.Finished) × (new ≡ old) × ((events : List Placed) → before events → now events)

-- ---- what its kinds of events do to the task

-- what a word reads of the untouched registers gets the next drawn values
abbrev pub late_of : TaskSeen → Option Decoded → List Fixing
late_of t m = late_registers t.draws (filter (λ r. is_none (t.log.present r)) (named_by m))

abbrev pub late_one : TaskSeen → ℕ → List Fixing
late_one t register = late_registers t.draws (filter (λ r. is_none (t.log.present r)) (register ∷ []))

abbrev pub task_event : ℕ → List Line → Event
task_event h lines = record { hart = h; parts = no_parts; asked = nothing_asked; lines = lines }

-- the log with an event more
abbrev pub with_event : LogSeen → ℕ → Event → LogSeen
with_event log place event = record log { events = log.events ++ record { place = place; event = event } ∷ [] }

-- The request of this number begins: its word is made next, or it is refused, since no choice of registers serves it.
abbrev pub begun_phase : code.Request → ℕ → Draws → task.Phase
begun_phase request k draws =
    if is_served (asked_word (request_seen request))
    then tasks.Making (record { k = k; request = request; word = (worded (asked_word (request_seen request)) draws).word })
    else tasks.Between

-- a request that is refused draws nothing
abbrev pub begun_draws : Request → Draws → Draws
begun_draws request draws = if is_served (asked_word request) then (worded (asked_word request) draws).left else draws

abbrev pub begun_lines : ℕ → ℕ → Request → List Line
begun_lines h k r = if is_served (asked_word r) then begins h k (request_kind r) ∷ [] else begins h k (request_kind r) ∷ refused h k NoRegister 0 ∷ []

abbrev pub begun_task : TaskSeen → code.Request → ℕ → TaskSeen
begun_task t request place = record t {
  phase = begun_phase request t.begun t.draws;
  begun = t.begun + 1;
  draws = begun_draws (request_seen request) t.draws;
  log = with_event t.log place (task_event t.hart.number (begun_lines t.hart.number t.begun (request_seen request)));
}

-- what is read of the untouched is fixed: the hart, and the log
abbrev pub fixed_task : TaskSeen → List Fixing → TaskSeen
fixed_task t late = record t {
  hart = with_registers (fixed_in t.hart.x late) t.hart;
  draws = skipped t.draws (length late);
  log = record t.log { initial = fixed_in t.log.initial late; present = fixed_in t.log.present late };
}

-- the event took this place in the world
abbrev pub Commits : ℕ → Event → (List Placed → Type 0) → (List Placed → Type 0) → Type 0
Commits place event before now = (events : List Placed) → before events → now (events ++ record { place = place; event = event } ∷ [])

-- ---- a step

-- whose word is stepped: a request's own, that of the handler to which its trap went, by the word's number there, or the last one
pub data Whose : Type 0 where
  of_request : ℕ → Whose
  of_handler : ℕ → ℕ → Whose
  of_end : Whose

abbrev pub came_by : Whose → Came
came_by (of_request k) = is_made
came_by (of_handler k next) = is_found
came_by of_end = is_last

-- The request that is done then: one that took no trap, or whose handler's last word this was.
abbrev pub done_by : Whose → Option Trap → Option ℕ
done_by (of_request k) None = Some k
done_by (of_request k) (Some trap) = None
done_by (of_handler k next) trap = if next == 5 then Some k else None
done_by of_end trap = None

abbrev pub phase_by : Whose → Option Trap → task.Phase
phase_by (of_request k) None = tasks.Between
phase_by (of_request k) (Some trap) = tasks.Handling (record { k = k; next = 0 })
phase_by (of_handler k next) trap = if next == 5 then tasks.Between else tasks.Handling (record { k = k; next = next + 1 })
phase_by of_end trap = tasks.Finished

-- the words of the window then: one that is found is none of them
abbrev pub words_by : Whose → List ℕ → ℕ → List ℕ
words_by (of_request k) words word = words ++ word ∷ []
words_by (of_handler k next) words word = words
words_by of_end words word = words ++ word ∷ []

-- the task when a word was stepped, and nothing but the registers noted
abbrev pub moved_task : TaskSeen → List Fixing → Effect → Hart → TaskSeen
moved_task t late e hart = record t {
  hart = hart;
  draws = skipped t.draws (length late);
  log = record t.log { initial = fixed_in t.log.initial late; present = with_write (fixed_in t.log.present late) e.rd };
}

pub record Moves (word : ℕ) (old new : TaskSeen) (effect : Effect) : Type 0 where
  pub does : step (word_seen old.hart.pc word) (fixed_task old (late_of old (decoded word))).hart ≡ Some (record { effect = effect; hart = new.hart })
  pub task : new ≡ moved_task old (late_of old (decoded word)) effect new.hart

-- the lines of a step
abbrev pub told_lines : ℕ → Whose → List Fixing → Effect → List Line
told_lines h whose late e = fixing_lines h late ++ (step_line (came_by whose) e ∷ option_map_or (λ (k : ℕ). done h k ∷ []) (done_by whose e.trap) [])

-- the task behind it
abbrev pub stepped_task : TaskSeen → Whose → ℕ → List Fixing → ℕ → Effect → Hart → TaskSeen
stepped_task t whose word late place e hart = record t {
  hart = hart;
  phase = phase_by whose e.trap;
  draws = skipped t.draws (length late);
  log = with_event (record t.log {
    words = words_by whose t.log.words word;
    initial = fixed_in t.log.initial late;
    present = with_write (fixed_in t.log.present late) e.rd;
  }) place (task_event t.hart.number (told_lines t.hart.number whose late e));
}

-- A word was stepped.
pub record Steps (whose : Whose) (word : ℕ) (old new : TaskSeen) (place : ℕ) (before now : List Placed → Type 0) : Type 0 where
  pub effect : Effect
  pub does : step (word_seen old.hart.pc word) (fixed_task old (late_of old (decoded word))).hart ≡ Some (record { effect = effect; hart = new.hart })
  pub task : new ≡ stepped_task old whose word (late_of old (decoded word)) place effect new.hart
  pub ranged : AllByRecursion KeepsRanges (told_lines old.hart.number whose (late_of old (decoded word)) effect)
  pub commits : Commits place (task_event old.hart.number (told_lines old.hart.number whose (late_of old (decoded word)) effect)) before now
