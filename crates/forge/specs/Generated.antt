-- What three files have to be to be made from a job, its trees, a seed and a schedule. Nothing here speaks of how they were made.
use Rattle.std.specs.Prelude.{ℕ, ◌≡◌, List, [], ◌++◌, codes, Bool, true, false, Some}
use Rattle.std.specs.List.{count_by}
use Rattle.std.specs.Fmt.{decimal}
use Rattle.elf_file.specs.Loading.{load}
use Rattle.elf_file.specs.Writing.{elf_of}
use Rattle.forge.specs.declared.made.Counts.{Counts}
use Rattle.choice_tree.specs.Forest.{Forest}
use Rattle.region_plan.specs.Plan.{Work, hart_count}
use Rattle.trace_text.specs.Lines.{Line, made, found, ending, done, refused, effects_of}
use Rattle.world_face.specs.Events.{Event}
use Rattle.hart_task.specs.Schedule.{FollowsList, FollowsSeed}
use Rattle.run_merge.specs.Image.{AreImagesOf, HartImage, image, program}
use Rattle.run_merge.specs.Answers.{Answers}
use Rattle.run_merge.specs.Justified.{Justified}
use Rattle.run_merge.specs.Order.{whole_order}
use Rattle.trace_replay.specs.Passes.{PassesBy}

-- how turns are given to harts: by a list of their numbers, or by the seed
pub data Schedule : Type 0 where
  listed : List ℕ → Schedule
  drawn : Schedule

-- the harts take turns so
abbrev pub Follows : Schedule → ℕ → ℕ → List Event → Type 0
Follows (listed harts) count seed events = FollowsList count [] harts events
Follows drawn count seed events = FollowsSeed count seed [] events

-- The file is the one that the format makes of the program's segments in their order, with their flags.
pub record IsProgramOf (work : Work) (lines : List Line) (elf : List ℕ) : Type 0 where
  pub harts : List HartImage
  -- what the harts bring is what the lines tell
  pub images : AreImagesOf work lines harts
  pub file : elf ≡ elf_of (program work harts)

-- The files are those of a run that the lines tell, whose events these are, in the order in which they took place.
pub record AreFilesOf (work : Work) (trees : Forest) (seed : ℕ) (events : List Event) (elf order trace : List ℕ) (lines : List Line) : Type 0 where
  -- From every reset, the program does exactly what the trace tells. In the order the boots of all harts come first, and then the harts
  -- of the step lines.
  pub passes : PassesBy (hart_count work) (whole_order (hart_count work) (effects_of lines)) lines elf order trace
  -- the executable holds the program
  pub program_is : IsProgramOf work lines elf
  -- what the file is loaded as is the image, at every address
  pub image_is : (a : ℕ) → load elf a ≡ Some (image work lines a)
  -- late fixing is harmless: whatever else stood in memory and registers, they would do the same
  pub justified : Justified work lines
  -- the lines answer the job
  pub answers : Answers work trees seed events lines

-- The files are those of a run under the schedule.
pub record IsRunOf (work : Work) (trees : Forest) (seed : ℕ) (schedule : Schedule) (elf order trace : List ℕ) (lines : List Line) : Type 0 where
  pub events : List Event
  pub files : AreFilesOf work trees seed events elf order trace lines
  -- an event is one turn: the harts take theirs as the schedule says
  pub turns : Follows schedule (hart_count work) seed events

-- the tests that a line is that of a step, that a request is done, and that one is refused
abbrev pub is_step : Line → Bool
is_step (made e) = true
is_step (found e) = true
is_step (ending e) = true
is_step line = false

abbrev pub tells_done : Line → Bool
tells_done (done h k) = true
tells_done line = false

abbrev pub tells_refused : Line → Bool
tells_refused (refused h k cause preamble) = true
tells_refused line = false

-- the numbers that a trace tells: its harts, and its lines of steps, of requests that are done and of refused ones
pub record IsCountOf (counts : Counts) (harts : ℕ) (lines : List Line) : Type 0 where
  pub harts_is : counts.harts ≡ harts
  pub steps_is : counts.steps ≡ count_by is_step lines
  pub done_is : counts.done ≡ count_by tells_done lines
  pub refused_is : counts.refused ≡ count_by tells_refused lines

-- the line that tells these numbers
abbrev pub counts_text : ℕ → List Line → List ℕ
counts_text harts lines =
    codes "harts " ++ decimal harts ++ codes " steps " ++ decimal (count_by is_step lines)
    ++ codes " done " ++ decimal (count_by tells_done lines) ++ codes " refused " ++ decimal (count_by tells_refused lines) ++ codes "\n"
