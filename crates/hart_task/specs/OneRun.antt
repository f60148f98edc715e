-- The events of all harts as one run, in the order in which they took place.
use Rattle.std.specs.List.{AllByRecursion, flat_map}
use Rattle.std.specs.Prelude.{List, filter, ℕ, ◌<◌, length, []}
use Rattle.choice_tree.specs.Forest.{Forest}
use Rattle.region_plan.specs.Plan.{Work, hart_count}
use Rattle.table_space.specs.Tables.{opening_space}
use Rattle.trace_text.specs.Lines.{Line}
use Rattle.world_face.specs.Choices.{choices_after, choices_legal}
use Rattle.world_face.specs.Events.{Event, a_shard, a_space, holds, is_of_hart, the_choices, the_pages}
use Rattle.world_face.specs.PagesBook.{pages_after, pages_legal}
use Rattle.world_face.specs.Runs.{Runs, StandsFor}
use Rattle.world_face.specs.Shards.{opening_shard, shard_after, shard_legal}
use Rattle.world_face.specs.Spaces.{space_after, space_legal}
use Rattle.hart_task.specs.State.{HartState, Phase, at_end, between, finding, making, start}
use Rattle.hart_task.specs.Turn.{acted, acts}

-- a hart's events are a run of its machine from its start
abbrev pub RunsTo : Work → ℕ → ℕ → List Event → HartState → Type 0
RunsTo work seed h events state = Runs (acts work) (acted work) (start work seed h) events state

abbrev pub IsAtEnd : Phase → Type 0
IsAtEnd between = ⊥
IsAtEnd (making m) = ⊥
IsAtEnd (finding k until) = ⊥
IsAtEnd at_end = Unit {0}

-- from its start to its end
pub record IsFinishedRun (work : Work) (seed h : ℕ) (events : List Event) : Type 0 where
  pub end : HartState
  pub run : RunsTo work seed h events end
  pub finished : IsAtEnd end.phase

-- Each part stands for the events that hold it, from what it is at the opening on.
pub record PartsStand (work : Work) (forest : Forest) (events : List Event) : Type 0 where
  pub spaces : (n : ℕ) → n < length work.spaces → StandsFor (space_legal work) (space_after work) (opening_space work n) (filter (holds (a_space n)) events)
  pub pages : StandsFor (pages_legal work) pages_after [] (filter (holds the_pages) events)
  pub choices : StandsFor (choices_legal work) choices_after forest (filter (holds the_choices) events)
  pub shards : (n : ℕ) → n < 32 → StandsFor (shard_legal work) shard_after opening_shard (filter (holds (a_shard n)) events)

-- the events of all harts in the order of their places, each a turn of one hart with the parts that it holds
pub record OneRun (work : Work) (forest : Forest) (seed : ℕ) (events : List Event) : Type 0 where
  pub members : AllByRecursion (λ (e : Event). e.hart < hart_count work) events
  pub harts : (h : ℕ) → h < hart_count work → IsFinishedRun work seed h (filter (is_of_hart h) events)
  pub parts : PartsStand work forest events

-- their lines
abbrev pub all_lines : List Event → List Line
all_lines events = flat_map (λ (e : Event). e.lines) events
