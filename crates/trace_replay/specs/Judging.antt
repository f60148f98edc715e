-- How far the code has come with a comparison.
use Rattle.std.specs.Prelude.{ℕ, ◌+◌, ◌<◌, ◌^◌, ◌≡◌, List, [], ◌∷◌, ◌++◌, length, take, nat_le, if◌then◌else◌, slice_get, slice_index, Option, Some, None, option_map}
use Rattle.std.specs.List.{AllByRecursion, flat_map}
use Rattle.std.specs.Option.{option_or}
use Rattle.rv_fields.specs.Effect.{Effect}
use Rattle.rv_fields.specs.Play.{Machine, Plays}
use Rattle.rv_machine.specs.declared.reset.Reset.{Reset}
use Rattle.trace_fields.specs.declared.fault.LineFault.TheVariants as line_fault
use Rattle.trace_text.specs.declared.trace_lines.TraceLines.{TraceLines}
use Rattle.trace_text.specs.Lines.{Line, effects_of}
use Rattle.trace_text.specs.Reading.{HasRead, Unread, unread}
use Rattle.trace_text.specs.Text.{line_text}
use Rattle.boot_words.specs.Booting.{boot_steps}
use Rattle.boot_words.specs.Passing.{behind_boots, effects_by}
use Rattle.elf_file.specs.declared.fault.ElfFault.TheVariants as elf_fault
use Rattle.trace_replay.specs.declared.boot.Boot.{Boot}
use Rattle.trace_replay.specs.declared.comparison.Comparison.{Comparison}
use Rattle.trace_replay.specs.declared.judge.Judge.{Judge}
use Rattle.trace_replay.specs.declared.verdict.Difference as code
use Rattle.trace_replay.specs.declared.verdict.LineField.{LineField}
use Rattle.trace_replay.specs.declared.verdict.ReplayFault.{ReplayFault}
use Rattle.trace_replay.specs.declared.verdict.ReplayFault.TheVariants.{Elf, Order, Trace, Memory}
use Rattle.trace_replay.specs.Comparing.{Difference, returns, steps_at, steps_differ, untrapped}
use Rattle.trace_replay.specs.Verdicts.{difference_seen}

-- ---- faults

-- a fault as it is handed on: being out of memory is told as such, whichever file was read
abbrev pub handed_on : ReplayFault → ReplayFault
handed_on (Elf elf_fault.Memory) = Memory
handed_on (Order line_fault.Memory) = Memory
handed_on (Trace line_fault.Memory) = Memory
handed_on fault = fault

-- ---- resets

-- the values in the registers are such
pub record IsInRange (reset : Reset) : Type 0 where
  pub registers : (r : ℕ) → slice_index (0 ∷ reset.x) r < 2 ^ 64
  pub count : length reset.csrs ≡ 19
  pub raw : AllByRecursion (λ v. v < 2 ^ 64) reset.csrs

-- ---- boots

-- what is kept of the boot of a hart that made these effects
pub record IsBootOf (boot : Boot) (effects : List Effect) : Type 0 where
  pub steps : boot.steps ≡ (if nat_le boot_steps (length effects) then boot_steps else length effects)
  pub untrapped_are : boot.untrapped ≡ untrapped (take boot_steps effects)
  pub returned : boot.returned ≡ returns effects

-- ---- differences

-- the difference in the field of the line, with what is shown as its spellings
abbrev pub IsShown : ℕ → LineField → Option (List ℕ) → Option (List ℕ) → code.Difference → Type 0
IsShown line field (Some told) (Some found) d = difference_seen d ≡ record { line = line; field = field; told = told; found = found }
IsShown line field told found d = Unit {0}

-- ---- steps

-- the first difference of all lines from a start on
abbrev pub compared : Unread → List Line → List Effect → Option Difference
compared start lines effects = steps_differ (start.number + length lines) (steps_at start.number lines) effects

-- what is left to compare of lines behind those that were read
abbrev pub left_to_compare : Unread → List Line → List Line → List Effect → Option Difference
left_to_compare start read rest effects = steps_differ (start.number + length (read ++ rest)) (steps_at (start.number + length read) rest) effects

-- So much of the trace from the start on is read, so many of its lines are step lines, and this is the first difference from the effects
-- so far: the first of all lines and all effects is this one, or else that of those that are left, whatever they are.
pub record IsComparedBy (start : Unread) (behind : List Effect) (lines : TraceLines) (steps : ℕ) (first : Option code.Difference) : Type 0 where
  pub read : List Line
  pub has_read : HasRead read start (unread lines)
  pub steps_are : steps ≡ length (effects_of read)
  pub first_is : (rest : List Line) → (unread lines).text ≡ flat_map line_text rest → (more : List Effect)
      → compared start (read ++ rest) (behind ++ more) ≡ option_or (option_map difference_seen first) (left_to_compare start read rest more)

abbrev pub IsCompared : Unread → List Effect → Comparison → Type 0
IsCompared start behind c = IsComparedBy start behind c.lines c.steps c.first

-- All of it is read, and compared with the effects, which are all.
pub record IsFinished (start : Unread) (behind : List Effect) (c : Comparison) : Type 0 where
  pub read : List Line
  pub has_read : HasRead read start (unread c.lines)
  pub ended : (unread c.lines).text ≡ []
  pub steps_are : c.steps ≡ length (effects_of read)
  pub first_is : option_map difference_seen c.first ≡ compared start read behind

-- The next line is read; where there is none, all lines are.
abbrev pub ReadsNextLine : Option Line → Unread → Unread → Type 0
ReadsNextLine None old new = HasRead [] old new × (new.text ≡ [])
ReadsNextLine (Some line) old new = HasRead (line ∷ []) old new

-- ---- all of it

-- the boots of harts that made these effects
abbrev pub AreBoots : List Boot → List Effect → Type 0
AreBoots boots effects = (h : ℕ) (boot : Boot) → slice_get boots h ≡ Some boot → IsBootOf boot (effects_by h effects)

-- These effects were judged so far.
pub record HasJudgedSoFar (start : Unread) (effects : List Effect) (judge : Judge) : Type 0 where
  pub boots : AreBoots judge.boots effects
  pub compared : IsCompared start (behind_boots [] effects) judge.comparison

-- All effects of a play were judged, and all of the trace is read.
pub record HasPlayed (start : Unread) (machine : Machine) (order : List ℕ) (judge : Judge) : Type 0 where
  pub effects : List Effect
  pub end : Machine
  pub plays : Plays machine order effects end
  pub boots : AreBoots judge.boots effects
  pub finished : IsFinished start (behind_boots [] effects) judge.comparison
