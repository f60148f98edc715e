-- What the answer to three files says.
use Rattle.std.specs.Prelude.{ℕ, ◌≡◌, ◌≢◌, List, ◌++◌, codes, length, string_bytes, Bool, true, false, Option, Some, None}
use Rattle.std.specs.Fmt.{decimal}
use Rattle.rv_fields.specs.Effect.{Effect}
use Rattle.rv_fields.specs.Play.{Machine, Plays}
use Rattle.rv_machine.specs.declared.reset.Reset.{Reset}
use Rattle.trace_fields.specs.declared.fault.LineFault.TheVariants as line_fault
use Rattle.trace_fields.specs.Fields.{Place}
use Rattle.trace_text.specs.Lines.{Line, effects_of}
use Rattle.trace_text.specs.Orders.{order_fault}
use Rattle.trace_fields.specs.Taking.{IsFault}
use Rattle.trace_text.specs.Traces.{trace_fault}
use Rattle.elf_file.specs.declared.fault.ElfFault.TheVariants as elf_fault
use Rattle.elf_file.specs.Faults.{file_fault}
use Rattle.trace_replay.specs.declared.verdict.Difference as code
use Rattle.trace_replay.specs.declared.verdict.ReplayFault.{ReplayFault}
use Rattle.trace_replay.specs.declared.verdict.ReplayFault.TheVariants.{Elf, Order, Trace, Memory}
use Rattle.trace_replay.specs.declared.verdict.Verdict.{Verdict}
use Rattle.trace_replay.specs.declared.verdict.Verdict.TheVariants.{Agrees, Differs}
use Rattle.trace_replay.specs.Comparing.{Difference, field_name, first_difference}
use Rattle.trace_replay.specs.Passes.{AreFiles, machine_at}

-- a difference without where its texts lie in memory
abbrev pub difference_seen : code.Difference → Difference
difference_seen d = record { line = d.line; field = d.field; told = string_bytes d.told.text; found = string_bytes d.found.text }

-- The verdict on so many step lines, where this is the first difference.
abbrev pub IsOf : Verdict → ℕ → Option Difference → Type 0
IsOf (Agrees steps) count None = steps ≡ count
IsOf (Agrees steps) count (Some d) = ⊥
IsOf (Differs first) count None = ⊥
IsOf (Differs first) count (Some d) = d ≡ difference_seen first

-- The verdict on three files from this reset of each hart: that of the first difference between their trace and the play.
pub record IsVerdict (reset : Reset) (elf order_file trace_file : List ℕ) (verdict : Verdict) : Type 0 where
  pub harts : ℕ
  pub order : List ℕ
  pub told_harts : ℕ
  pub lines : List Line
  pub files : AreFiles harts order told_harts lines elf order_file trace_file
  pub effects : List Effect
  pub end : Machine
  pub plays : Plays (machine_at harts reset elf) order effects end
  pub is : IsOf verdict (length (effects_of lines)) (first_difference told_harts harts lines effects)

abbrev pub is_agreement : Verdict → Bool
is_agreement (Agrees steps) = true
is_agreement (Differs first) = false

-- the fault of a trace, or memory ran out
abbrev pub IsTraceFault : Option Place → ReplayFault → Type 0
IsTraceFault place (Elf fault) = ⊥
IsTraceFault place (Order fault) = ⊥
IsTraceFault place (Trace fault) = (fault ≢ line_fault.Memory) × IsFault place fault
IsTraceFault place Memory = Unit {0}

-- The fault of the first of the three files that has one; or memory ran out.
abbrev pub IsFaultOf : List ℕ → List ℕ → List ℕ → ReplayFault → Type 0
IsFaultOf elf order_file trace_file (Elf fault) = (fault ≢ elf_fault.Memory) × (file_fault elf ≡ Some fault)
IsFaultOf elf order_file trace_file (Order fault) =
    (fault ≢ line_fault.Memory) × (file_fault elf ≡ None) × IsFault (order_fault order_file) fault
IsFaultOf elf order_file trace_file (Trace fault) =
    (fault ≢ line_fault.Memory) × (file_fault elf ≡ None) × (order_fault order_file ≡ None) × IsFault (trace_fault trace_file) fault
IsFaultOf elf order_file trace_file Memory = Unit {0}

-- ---- what is printed of it

abbrev pub difference_text : Difference → List ℕ
difference_text d = codes "line " ++ decimal d.line ++ codes " field " ++ field_name d.field ++ codes " told " ++ d.told ++ codes " found " ++ d.found

abbrev pub verdict_text : Verdict → List ℕ
verdict_text (Agrees steps) = codes "agrees " ++ decimal steps ++ codes " steps"
verdict_text (Differs first) = difference_text (difference_seen first)
