-- What an event's lines tell of the shared parts.
use Rattle.std.specs.Prelude.{List, None, Option, Some, filter_map, map, ℕ, ◌∷◌, []}
use Rattle.rv_fields.specs.declared.access.Accessed.{Accessed}
use Rattle.rv_fields.specs.Name.{Name}
use Rattle.trace_text.specs.Lines.{Line, done, ending, fixed, found, given, made, picked, refused, request, settled, touched, weighed}
use Rattle.world_face.specs.Events.{Event}

-- a weight that is set
pub record Weighing : Type 0 where
  pub tree : Name
  pub path : List Name
  pub weight : ℕ

-- bytes from an address on
pub record Run : Type 0 where
  pub at : ℕ
  pub bytes : List ℕ

-- what a line tells of parts: a picked leaf, a weight that is set, the line of a frame that is given, that of an entry that is
-- fixed, bytes that are fixed, and an access
pub record Told : Type 0 where
  pub leaf : Option Name
  pub weighing : Option Weighing
  pub frame : Option Line
  pub entry : Option Line
  pub run : Option Run
  pub access : Option Accessed

abbrev pub nothing_told : Told
nothing_told = record { leaf = None; weighing = None; frame = None; entry = None; run = None; access = None }

abbrev pub told_by : Line → Told
told_by (request hart k kind) = nothing_told
told_by (picked hart tree leaf word) = record nothing_told { leaf = Some leaf }
told_by (weighed hart tree path weight) = record nothing_told { weighing = Some (record { tree = tree; path = path; weight = weight }) }
told_by (fixed hart register value) = nothing_told
told_by (given hart object page frame) = record nothing_told { frame = Some (given hart object page frame) }
told_by (settled hart space entry) = record nothing_told { entry = Some (settled hart space entry) }
told_by (touched hart at bytes) = record nothing_told { run = Some (record { at = at; bytes = bytes }) }
told_by (made e) = record nothing_told { access = e.access }
told_by (found e) = record nothing_told { access = e.access }
told_by (ending e) = record nothing_told { access = e.access }
told_by (done hart k) = nothing_told
told_by (refused hart k cause preamble) = nothing_told

-- all that the lines of an event tell of one kind, in their order
abbrev pub all_told : {A : Type 0} → (Told → Option A) → Event → List A
all_told kind e = filter_map kind (map told_by e.lines)

abbrev pub first : {A : Type 0} → List A → Option A
first [] = None
first (a ∷ rest) = Some a

abbrev pub leaf_told : Event → Option Name
leaf_told e = first (all_told (λ (t : Told). t.leaf) e)

abbrev pub weighing_told : Event → Option Weighing
weighing_told e = first (all_told (λ (t : Told). t.weighing) e)

abbrev pub access_told : Event → Option Accessed
access_told e = first (all_told (λ (t : Told). t.access) e)

-- the lines that tell of frames, and those that tell of entries
abbrev pub frame_lines : Event → List Line
frame_lines e = all_told (λ (t : Told). t.frame) e

abbrev pub entry_lines : Event → List Line
entry_lines e = all_told (λ (t : Told). t.entry) e

abbrev pub runs_told : Event → List Run
runs_told e = all_told (λ (t : Told). t.run) e
