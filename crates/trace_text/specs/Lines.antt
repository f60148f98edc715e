-- The lines of a trace.
use Rattle.std.specs.Prelude.{ℕ, List, [], ◌∷◌, filter, ◌==◌, ◌&&◌, Option, Some, None, if◌then◌else◌}
use Rattle.std.specs.List.{filter_map}
use Rattle.std.specs.Option.{option_or}
use Rattle.rv_fields.specs.Effect.{Effect, Entry}
use Rattle.rv_fields.specs.Name.{Name}
use Rattle.trace_fields.specs.declared.request.Kind.{Kind}
use Rattle.trace_fields.specs.declared.request.Cause.{Cause}

-- Each line is of a hart, which comes first.
pub data Line : Type 0 where
  -- the request of this number begins, which is of the kind
  request : ℕ → ℕ → Kind → Line
  -- in the tree, the leaf was picked by the drawn word
  picked : ℕ → Name → Name → ℕ → Line
  -- in the tree, the node at the path has a new weight
  weighed : ℕ → Name → List Name → ℕ → Line
  -- the register of this number starts with the value
  fixed : ℕ → ℕ → ℕ → Line
  -- the object's page of this number is given the frame
  given : ℕ → Name → ℕ → ℕ → Line
  -- in the address space of this number, the page table entry is fixed
  settled : ℕ → ℕ → Entry → Line
  -- from the physical address on, memory starts with the bytes
  touched : ℕ → ℕ → List ℕ → Line
  -- the hart steps a word that the request has just made
  made : Effect → Line
  -- the hart steps a word that it has found
  found : Effect → Line
  -- the hart steps its last word, and is finished
  ending : Effect → Line
  -- the request of this number is done
  done : ℕ → ℕ → Line
  -- the request of this number is refused for the cause, behind a preamble of so many words
  refused : ℕ → ℕ → Cause → ℕ → Line

abbrev pub hart_of : Line → ℕ
hart_of (request hart k kind) = hart
hart_of (picked hart tree leaf drawn) = hart
hart_of (weighed hart tree path weight) = hart
hart_of (fixed hart register value) = hart
hart_of (given hart object page frame) = hart
hart_of (settled hart space entry) = hart
hart_of (touched hart at bytes) = hart
hart_of (made e) = e.hart
hart_of (found e) = e.hart
hart_of (ending e) = e.hart
hart_of (done hart k) = hart
hart_of (refused hart k cause preamble) = hart

-- the effect that a step line tells
abbrev pub effect_of : Line → Option Effect
effect_of (made e) = Some e
effect_of (found e) = Some e
effect_of (ending e) = Some e
effect_of line = None

-- what the step lines tell, in order
abbrev pub effects_of : List Line → List Effect
effects_of lines = filter_map effect_of lines

-- the lines of one hart
abbrev pub lines_of : ℕ → List Line → List Line
lines_of hart lines = filter (λ l. hart_of l == hart) lines

-- the value that the line gives a register of a hart to start with
abbrev pub fixed_by : ℕ → ℕ → Line → Option ℕ
fixed_by hart register (fixed h r value) = if (h == hart) && (r == register) then Some value else None
fixed_by hart register line = None

-- the value that the lines give a register of a hart to start with
abbrev pub starting : List Line → ℕ → ℕ → Option ℕ
starting [] hart register = None
starting (l ∷ ls) hart register = option_or (fixed_by hart register l) (starting ls hart register)
