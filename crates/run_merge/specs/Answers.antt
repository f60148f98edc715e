-- What a trace has to tell for a job.
use Rattle.std.specs.Prelude.{ℕ, ◌≡◌, ◌<◌, List, []}
use Rattle.choice_tree.specs.Forest.{Forest}
use Rattle.region_plan.specs.Plan.{Work, hart_count}
use Rattle.trace_text.specs.Lines.{Line, lines_of}
use Rattle.trace_text.specs.Traces.{IsTrace}
use Rattle.world_face.specs.Events.{Event}
use Rattle.hart_task.specs.Blocks.{AreBlocks}
use Rattle.hart_task.specs.OneRun.{OneRun, all_lines}
use Rattle.hart_task.specs.Task.{script}

-- The lines answer the job: they are those of one run of all harts, to their ends, under the seed and the trees. So they are what
-- the rules of drawing make of the job, word by word. Beside it stands what a reader wants to know of each hart's lines.
pub record Answers (work : Work) (forest : Forest) (seed : ℕ) (events : List Event) (lines : List Line) : Type 0 where
  pub are : lines ≡ all_lines events
  pub run : OneRun work forest seed events
  -- each request has one block, in the template's order, which meets it or has a true cause
  pub blocks : (h : ℕ) → h < hart_count work → AreBlocks work h 0 (script work h) [] (lines_of h lines)
  -- and all is in the ranges that a trace can spell
  pub ranges : IsTrace (hart_count work) lines
