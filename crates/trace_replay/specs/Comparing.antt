-- How a trace is compared with a play: the first difference, where there is one.
use Rattle.std.specs.Prelude.{ℕ, zero, suc, ◌+◌, ◌==◌, ◌&&◌, List, [], ◌∷◌, codes, length, take, slice_get, Bool, false, is_none, Option, Some, None, if◌then◌else◌, ◌-◌}
use Rattle.std.specs.Fmt.{decimal}
use Rattle.std.specs.Option.{option_map_or, option_or}
use Rattle.std.specs.Str.{bytes_eq}
use Rattle.rv_fields.specs.Effect.{Effect}
use Rattle.trace_text.specs.Lines.{Line, effect_of}
use Rattle.trace_text.specs.Text.{step_fields}
use Rattle.boot_words.specs.Boot.{mret, spelled}
use Rattle.boot_words.specs.Booting.{boot_steps}
use Rattle.boot_words.specs.Passing.{behind_boots, effects_by}
use Rattle.trace_replay.specs.declared.verdict.LineField.{LineField}
use Rattle.trace_replay.specs.declared.verdict.LineField.TheVariants.{Harts, Boot, Hart, Pc, Pa, Word, Rd, Access, Trail, Trap}

abbrev pub field_name : LineField → List ℕ
field_name Harts = codes "harts"
field_name Boot = codes "boot"
field_name Hart = codes "hart"
field_name Pc = codes "pc"
field_name Pa = codes "pa"
field_name Word = codes "word"
field_name Rd = codes "rd"
field_name Access = codes "access"
field_name Trail = codes "trail"
field_name Trap = codes "trap"

-- A line of the trace, counted from 1, and a field, with the trace's spelling and that of what was found.
pub record Difference : Type 0 where
  pub line : ℕ
  pub field : LineField
  pub told : List ℕ
  pub found : List ℕ

-- what stands for a step that one side lacks
abbrev pub no_step : List ℕ
no_step = codes "none"

-- ---- the numbers of harts

abbrev pub harts_differ : ℕ → ℕ → Option Difference
harts_differ told found = if told == found then None else Some (record { line = 1; field = Harts; told = decimal told; found = decimal found })

-- ---- the boots

-- how many effects come before the first that traps
abbrev pub untrapped : List Effect → ℕ
untrapped [] = 0
untrapped (e ∷ effects) = if is_none e.trap then suc (untrapped effects) else 0

-- the effect is that of mret
abbrev pub is_mret : Effect → Bool
is_mret e = option_map_or (λ word. word == spelled mret) e.word false

-- the last effect of a boot is there, and is that of mret
abbrev pub returns : List Effect → Bool
returns effects = option_map_or is_mret (slice_get effects (boot_steps - 1)) false

-- the effects of a hart begin with a boot
abbrev pub begins_with_boot : List Effect → Bool
begins_with_boot effects = (untrapped (take boot_steps effects) == boot_steps) && returns effects

abbrev pub boot_differs : ℕ → List Effect → Option Difference
boot_differs hart effects =
    if begins_with_boot effects then None
    else Some (record { line = 1; field = Boot; told = decimal hart; found = decimal (untrapped (take boot_steps effects)) })

-- the first of so many harts from one on whose boot doesn't pass
abbrev pub boots_differ : ℕ → ℕ → List Effect → Option Difference
boots_differ hart zero effects = None
boots_differ hart (suc count) effects = option_or (boot_differs hart (effects_by hart effects)) (boots_differ (hart + 1) count effects)

-- ---- the steps behind the boots

-- the fields of a step line, in the order of their columns
abbrev pub compared_fields : List LineField
compared_fields = Hart ∷ Pc ∷ Pa ∷ Word ∷ Rd ∷ Access ∷ Trail ∷ Trap ∷ []

-- the field, if it is spelled otherwise
abbrev pub field_differs : ℕ → LineField → List ℕ → List ℕ → Option Difference
field_differs line field told found = if bytes_eq told found then None else Some (record { line = line; field = field; told = told; found = found })

-- the first field that is spelled otherwise
abbrev pub fields_differ : ℕ → List LineField → List (List ℕ) → List (List ℕ) → Option Difference
fields_differ line [] told found = None
fields_differ line (field ∷ fields) [] found = None
fields_differ line (field ∷ fields) (t ∷ told) [] = None
fields_differ line (field ∷ fields) (t ∷ told) (f ∷ found) = option_or (field_differs line field t f) (fields_differ line fields told found)

-- a step line with its number
pub record StepAt : Type 0 where
  pub line : ℕ
  pub effect : Effect

-- the step lines of lines that are counted from this number on
abbrev pub steps_at : ℕ → List Line → List StepAt
steps_at number [] = []
steps_at number (line ∷ lines) =
    option_map_or (λ (e : Effect). record { line = number; effect = e } ∷ steps_at (number + 1) lines) (effect_of line) (steps_at (number + 1) lines)

-- A step that one side lacks differs in its hart: one that the line tells and nobody made, and one that the trace lacks, which is told
-- of the line behind its last.
abbrev pub unmade : ℕ → Effect → Difference
unmade line e = record { line = line; field = Hart; told = decimal e.hart; found = no_step }

abbrev pub untold : ℕ → Effect → Difference
untold line e = record { line = line; field = Hart; told = no_step; found = decimal e.hart }

abbrev pub steps_differ : ℕ → List StepAt → List Effect → Option Difference
steps_differ behind [] [] = None
steps_differ behind [] (e ∷ effects) = Some (untold behind e)
steps_differ behind (s ∷ steps) [] = Some (unmade s.line s.effect)
steps_differ behind (s ∷ steps) (e ∷ effects) =
    option_or (fields_differ s.line compared_fields (step_fields s.effect) (step_fields e)) (steps_differ behind steps effects)

-- ---- all of it

-- The numbers of harts that the trace and the order tell, the boots in rising order, and then the steps. The trace's second line is
-- the first behind the one that tells its harts.
abbrev pub first_difference : ℕ → ℕ → List Line → List Effect → Option Difference
first_difference told_harts harts lines effects =
    option_or (harts_differ told_harts harts)
    (option_or (boots_differ 0 harts effects) (steps_differ (2 + length lines) (steps_at 2 lines) (behind_boots [] effects)))
