-- How a command ends: why, what it leaves in the store, its status, and what it prints.
use Rattle.std.specs.Prelude.{ℕ, suc, true, ◌≡◌, ◌↔◌, ◌≢◌, ◌<◌, ◌==◌, ◌⊎◌, List, [], ◌∷◌, ◌++◌, length, take, codes, nat_lt, option_map, replicate, Option, Some, None, IfSome, IsSomeAnd, MatchOption, slice_get, if◌then◌else◌}
use Rattle.std.specs.Fmt.{decimal}
use Rattle.std.specs.List.{AllByRecursion, count_by}
use Rattle.std.specs.Option.{option_or}
use Rattle.choice_tree.specs.Forest.{Forest, forest_in}
use Rattle.region_plan.specs.Plan.{Work, hart_count}
use Rattle.trace_fields.specs.declared.fault.LineFault.TheVariants.{At}
use Rattle.trace_fields.specs.Fields.{Place}
use Rattle.trace_text.specs.Lines.{Line}
use Rattle.trace_fields.specs.Messages.{line_message}
use Rattle.trace_text.specs.Orders.{order_fault}
use Rattle.trace_text.specs.Traces.{trace_fault}
use Rattle.elf_file.specs.Faults.{file_fault}
use Rattle.elf_file.specs.Messages.{elf_message}
use Rattle.rv_machine.specs.declared.reset.Reset.{Reset}
use Rattle.trace_replay.specs.declared.verdict.Verdict.{Verdict}
use Rattle.trace_replay.specs.declared.verdict.Verdict.TheVariants.{Agrees, Differs}
use Rattle.trace_replay.specs.Comparing.{Difference}
use Rattle.trace_replay.specs.Passes.{PassesFrom}
use Rattle.trace_replay.specs.Verdicts as verdicts
use Rattle.trace_replay.specs.Verdicts.{IsVerdict, difference_seen, difference_text}
use Rattle.job_read.specs.Accepted.{job_in}
use Rattle.store_face.specs.State.{Held, State, Rose}
use Rattle.forge.specs.Words.{Command, MakingSerial, command_of, make_serial, replay}
use Rattle.forge.specs.Generated.{IsRunOf, counts_text, drawn, tells_refused}

-- ---- endings, their statuses and what is printed

pub data Ending : Type 0 where
  -- the files of a run of so many harts are written, whose lines these are
  files_made : ℕ → List Line → Ending
  -- the trace, which has so many step lines, tells what the program does; or this is the first difference
  agreed : ℕ → Ending
  differs : Difference → Ending
  -- the words are not a command
  usage : Ending
  -- the file of this name can't be read, or can't be written
  unreadable : List ℕ → Ending
  unwritten : List ℕ → Ending
  -- what the file of this name holds isn't accepted, for this reason
  rejected : List ℕ → List ℕ → Ending
  -- the file of this name has more bytes than so many
  too_long : List ℕ → ℕ → Ending
  out_of_memory : Ending

-- a run with a refused request has a status of its own
abbrev pub made_status : ℕ → ℕ
made_status refused = if refused == 0 then 0 else 2

abbrev pub status_of : Ending → ℕ
status_of (files_made harts lines) = made_status (count_by tells_refused lines)
status_of (agreed steps) = 0
status_of (differs difference) = 1
status_of usage = 3
status_of (unreadable name) = 4
status_of (unwritten name) = 5
status_of (rejected name reason) = 6
status_of (too_long name most) = 7
status_of out_of_memory = 8

-- the line that names the commands, also those that are to come, without its newline
abbrev pub usage_text : List ℕ
usage_text = codes "usage: make|make-serial JOB TREES SEED ELF ORDER TRACE; replay ELF ORDER TRACE; big N JOB TREES; check JOB TREES"

abbrev pub printed : Ending → List ℕ
printed (files_made harts lines) = counts_text harts lines
printed (agreed steps) = codes "agrees " ++ decimal steps ++ codes " steps\n"
printed (differs difference) = difference_text difference ++ codes "\n"
printed usage = usage_text ++ codes "\n"
printed (unreadable name) = codes "cannot read " ++ name ++ codes "\n"
printed (unwritten name) = codes "cannot write " ++ name ++ codes "\n"
printed (rejected name reason) = name ++ codes ": " ++ reason ++ codes "\n"
printed (too_long name most) = name ++ codes ": longer than " ++ decimal most ++ codes " bytes\n"
printed out_of_memory = []

-- ---- what a command reads and writes

-- the names of the files that it reads and of those that it writes, each in its order
abbrev pub inputs : Command → List (List ℕ)
inputs (make_serial m) = m.job ∷ m.trees ∷ []
inputs (replay r) = r.elf ∷ r.order ∷ r.trace ∷ []

abbrev pub outputs : Command → List (List ℕ)
outputs (make_serial m) = m.elf ∷ m.order ∷ m.trace ∷ []
outputs (replay r) = []

-- the most bytes that a file has which it reads
abbrev pub most_bytes : Command → ℕ
most_bytes (make_serial m) = 4194304
most_bytes (replay r) = 536870912

-- the first of the files that is too long
abbrev pub length_fault : ℕ → List (List ℕ) → List (List ℕ) → Option Ending
length_fault most [] contents = None
length_fault most (name ∷ names) [] = None
length_fault most (name ∷ names) (content ∷ contents) =
    if nat_lt most (length content) then Some (too_long name most) else length_fault most names contents

-- what isn't accepted yet
abbrev pub unless_read : {A : Type 0} → List ℕ → Option A → Option Ending
unless_read name None = Some (rejected name (codes "not built yet"))
unless_read name (Some value) = None

-- what is at fault
abbrev pub if_faulty : {A : Type 0} → List ℕ → (A → List ℕ) → Option A → Option Ending
if_faulty name text fault = option_map (λ fault. rejected name (text fault)) fault

-- the wrong field of a line, as its fault is told
abbrev pub place_text : Place → List ℕ
place_text place = line_message (At place.line place.field)

-- the first of the files whose content isn't accepted
abbrev pub form_fault : Command → List (List ℕ) → Option Ending
form_fault (make_serial m) (job ∷ trees ∷ []) = option_or (unless_read m.job (job_in job)) (unless_read m.trees (forest_in trees))
form_fault (replay r) (elf ∷ order ∷ trace ∷ []) =
    option_or (if_faulty r.elf elf_message (file_fault elf))
    (option_or (if_faulty r.order place_text (order_fault order)) (if_faulty r.trace place_text (trace_fault trace)))
form_fault c contents = None

-- What these contents of its inputs end a command with, if anything: lengths come before forms.
abbrev pub input_fault : Command → List (List ℕ) → Option Ending
input_fault c contents = option_or (length_fault (most_bytes c) (inputs c) contents) (form_fault c contents)

-- ---- what it leaves

-- the names hold these contents, each its own
abbrev pub AreHeld : Held → List (List ℕ) → List (List ℕ) → Type 0
AreHeld held [] [] = Unit {0}
AreHeld held [] (content ∷ contents) = ⊥
AreHeld held (name ∷ names) [] = ⊥
AreHeld held (name ∷ names) (content ∷ contents) = (held name ≡ Some content) × AreHeld held names contents

-- the file is there
abbrev pub IsThere : Held → List ℕ → Type 0
IsThere held name = IsSomeAnd (held name) (λ content. Unit {0})

-- the fact holds of what the inputs held, as far as the store tells it
abbrev pub OfInputs : Command → State → (List (List ℕ) → Type 0) → Type 0
OfInputs c old P = (contents : List (List ℕ)) × IfSome old.holds (λ before. AreHeld before (inputs c) contents) × P contents

-- a file to be written: its name, and the bytes that it is to hold
pub record Output : Type 0 where
  pub name : List ℕ
  pub bytes : List ℕ

-- How far files have been written, one after another: so many are whole, the one behind them may hold anything, and
-- every other name holds what it held.
pub record LeftBy (files : List Output) (count : ℕ) (before now : Held) : Type 0 where
  pub whole : AllByRecursion (λ file. now file.name ≡ Some file.bytes) (take count files)
  pub others : (name : List ℕ) → AllByRecursion (λ file. name ≢ file.name) (take (suc count) files) → now name ≡ before name

-- nothing was written: no file has changed, where the store tells what it holds, and no write has failed
abbrev pub Unchanged : State → State → Type 0
Unchanged old new = (new.holds ≡ old.holds) × (new.write_faults ≡ old.write_faults)

-- what the store told of before it tells of after, and the fact holds of both
abbrev pub ToldOfBoth : State → State → (Held → Held → Type 0) → Type 0
ToldOfBoth old new P = IfSome old.holds (λ before. IsSomeAnd new.holds (λ now. P before now))

-- every name but those that the command writes holds what it held
abbrev pub KeepsOthers : Command → Held → Held → Type 0
KeepsOthers c before now = (name : List ℕ) → AllByRecursion (λ output. name ≢ output) (outputs c) → now name ≡ before name

-- The three files are those of a run, under the drawn schedule, of the job and the trees that these contents spell.
pub record IsRunFrom (m : MakingSerial) (contents : List (List ℕ)) (files : List Output) (harts : ℕ) (lines : List Line) : Type 0 where
  pub job : List ℕ
  pub trees : List ℕ
  pub contents_are : contents ≡ job ∷ trees ∷ []
  pub work : Work
  pub forest : Forest
  pub job_read : job_in job ≡ Some work
  pub trees_read : forest_in trees ≡ Some forest
  pub harts_are : harts ≡ hart_count work
  pub elf : List ℕ
  pub order : List ℕ
  pub trace : List ℕ
  pub run : IsRunOf work forest m.seed drawn elf order trace lines
  pub files_are : files ≡ record { name = m.elf; bytes = elf } ∷ record { name = m.order; bytes = order } ∷ record { name = m.trace; bytes = trace } ∷ []

-- what the command makes of these contents
abbrev pub Makes : Command → List (List ℕ) → List Output → ℕ → List Line → Type 0
Makes (make_serial m) contents files harts lines = IsRunFrom m contents files harts lines
Makes (replay r) contents files harts lines = ⊥

-- Of the files that the command makes of its inputs so many are whole.
pub record Leaves (c : Command) (old new : State) (count harts : ℕ) (lines : List Line) : Type 0 where
  pub contents : List (List ℕ)
  pub held : IfSome old.holds (λ before. AreHeld before (inputs c) contents)
  pub accepted : input_fault c contents ≡ None
  pub files : List Output
  pub made : Makes c contents files harts lines
  pub left : ToldOfBoth old new (LeftBy files count)

-- ---- what it judges

-- zeros in all registers
abbrev pub zeros : Reset
zeros = record { x = replicate 31 0; csrs = replicate 19 0 }

-- what the verdict ends the command with
abbrev pub ending_on : Verdict → Ending
ending_on (Agrees steps) = agreed steps
ending_on (Differs first) = differs (difference_seen first)

-- The verdict on three files from the reset with zeros in all registers. It agrees exactly where they pass from it.
pub record IsJudged (elf order trace : List ℕ) (ending : Ending) : Type 0 where
  pub verdict : Verdict
  pub is : IsVerdict zeros elf order trace verdict
  pub exactly : (verdicts.is_agreement verdict ≡ true) ↔ PassesFrom zeros elf order trace
  pub ending_is : ending ≡ ending_on verdict

-- what the command judges of these contents
abbrev pub Judges : Command → List (List ℕ) → Ending → Type 0
Judges (replay r) (elf ∷ order ∷ trace ∷ []) ending = IsJudged elf order trace ending
Judges c contents ending = ⊥

-- The command has judged what its inputs hold, which have no fault, and wrote nothing.
pub record HasJudged (c : Command) (old new : State) (ending : Ending) : Type 0 where
  pub contents : List (List ℕ)
  pub held : IfSome old.holds (λ before. AreHeld before (inputs c) contents)
  pub accepted : input_fault c contents ≡ None
  pub judges : Judges c contents ending
  pub unchanged : Unchanged old new

-- ---- why it ends so

-- A read failed in this call: of this file, which the command reads. Those before it were there.
pub record ReadFails (c : Command) (old new : State) (name : List ℕ) : Type 0 where
  pub rose : Rose old.read_faults new.read_faults
  pub last : new.last ≡ name
  pub number : ℕ
  pub named : slice_get (inputs c) number ≡ Some name
  pub there : IfSome old.holds (λ before. AllByRecursion (IsThere before) (take number (inputs c)))
  pub unchanged : Unchanged old new

-- A write failed in this call: of this file, which the command writes. Those before it are whole, and those behind it hold what they held.
pub record WriteFails (c : Command) (old new : State) (name : List ℕ) : Type 0 where
  pub rose : Rose old.write_faults new.write_faults
  pub last : new.last ≡ name
  pub number : ℕ
  pub named : slice_get (outputs c) number ≡ Some name
  pub harts : ℕ
  pub lines : List Line
  pub left : Leaves c old new number harts lines

-- It stopped within a write: the files before that one are whole, and those behind it hold what they held.
pub record StopsWriting (c : Command) (old new : State) : Type 0 where
  pub number : ℕ
  pub within : number < length (outputs c)
  pub harts : ℕ
  pub lines : List Line
  pub left : Leaves c old new number harts lines

-- Each ending with its cause, and what it leaves.
abbrev pub Causes : Command → State → State → Ending → Type 0
Causes c old new (files_made harts lines) = Leaves c old new (length (outputs c)) harts lines
Causes c old new (agreed steps) = HasJudged c old new (agreed steps)
Causes c old new (differs difference) = HasJudged c old new (differs difference)
Causes c old new usage = ⊥
Causes c old new (unreadable name) = ReadFails c old new name
Causes c old new (unwritten name) = WriteFails c old new name
Causes c old new (rejected name reason) = Unchanged old new × OfInputs c old (λ contents. input_fault c contents ≡ Some (rejected name reason))
Causes c old new (too_long name most) = Unchanged old new × OfInputs c old (λ contents. input_fault c contents ≡ Some (too_long name most))
-- before the first write, or within a write
Causes c old new out_of_memory = Unchanged old new ⊎ StopsWriting c old new

-- where the words are not a command, the store is left alone
abbrev pub NoCommand : State → State → Ending → Type 0
NoCommand old new ending = (new ≡ old) × ((ending ≡ usage) ⊎ (ending ≡ out_of_memory))

-- the command has done what it was asked for
abbrev pub IsDone : Ending → Type 0
IsDone (files_made harts lines) = Unit {0}
IsDone (agreed steps) = Unit {0}
IsDone (differs difference) = Unit {0}
IsDone ending = ⊥

-- What inputs that are there end a command with where no read failed: their fault, if they have one; else it did what it was asked for, or
-- a write failed. Memory may run out in any case.
abbrev pub Serves : Command → State → State → List (List ℕ) → Ending → Type 0
Serves c old new contents ending =
    MatchOption (input_fault c contents)
    (IsDone ending ⊎ Rose old.write_faults new.write_faults ⊎ (ending ≡ out_of_memory))
    (λ fault. (ending ≡ fault) ⊎ (ending ≡ out_of_memory))

-- How the words end.
pub record Ends (words : List (List ℕ)) (old new : State) (status : ℕ) (out : List ℕ) : Type 0 where
  pub ending : Ending
  pub status_is : status ≡ status_of ending
  pub printed_is : out ≡ printed ending
  -- why, and what that leaves
  pub cause : MatchOption (command_of words) (NoCommand old new ending) (λ c. Causes c old new ending)
  -- whatever comes, every name but those that the command writes holds what it held
  pub others : IfSome (command_of words) (λ c. ToldOfBoth old new (KeepsOthers c))
  -- inputs that are there end it as they should, where no read failed
  pub serves : IfSome (command_of words) (λ c. ¬ Rose old.read_faults new.read_faults
      → IfSome old.holds (λ before. (contents : List (List ℕ)) → AreHeld before (inputs c) contents → Serves c old new contents ending))
