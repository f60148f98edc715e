-- The text of a trace and of an order: lines in ASCII, each ended by a newline, their fields parted by one space.
use Rattle.std.specs.Prelude.{ℕ, ◌+◌, List, [], ◌∷◌, ◌++◌, codes, ◌==◌, if◌then◌else◌}
use Rattle.std.specs.List.{flat_map}
use Rattle.std.specs.Fmt.{decimal}
use Rattle.rv_fields.specs.Effect.{Effect}
use Rattle.trace_fields.specs.Text.{space_byte, slash, joined_by, hex, word_text, byte_text, or_none, kind_text, cause_text, write_text, access_text, trail_text, trap_text}
use Rattle.trace_text.specs.Lines.{Line, request, picked, weighed, fixed, given, settled, touched, made, found, ending, done, refused}

abbrev pub newline : List ℕ
newline = codes "\n"

-- HART PC PA WORD RD ACCESS TRAIL TRAP: a step line has a PA and a WORD
abbrev pub step_fields : Effect → List (List ℕ)
step_fields e =
    decimal e.hart ∷ hex e.pc ∷ or_none hex e.pa ∷ or_none word_text e.word ∷ or_none write_text e.rd ∷ or_none access_text e.access ∷ trail_text e.trail
    ∷ or_none trap_text e.trap ∷ []

-- the fields of a line, the first of which tells what the line is
abbrev pub line_fields : Line → List (List ℕ)
line_fields (request hart k kind) = codes "q" ∷ decimal hart ∷ decimal k ∷ kind_text kind ∷ []
line_fields (picked hart tree leaf drawn) = codes "p" ∷ decimal hart ∷ tree ∷ leaf ∷ hex drawn ∷ []
line_fields (weighed hart tree path weight) = codes "w" ∷ decimal hart ∷ tree ∷ joined_by slash path ∷ decimal weight ∷ []
line_fields (fixed hart register value) = codes "x" ∷ decimal hart ∷ decimal register ∷ hex value ∷ []
line_fields (given hart object page frame) = codes "g" ∷ decimal hart ∷ object ∷ decimal page ∷ decimal frame ∷ []
line_fields (settled hart space entry) = codes "m" ∷ decimal hart ∷ decimal space ∷ hex entry.at ∷ hex entry.pte ∷ []
line_fields (touched hart at bytes) = codes "y" ∷ decimal hart ∷ hex at ∷ flat_map byte_text bytes ∷ []
line_fields (made e) = codes "s" ∷ step_fields e
line_fields (found e) = codes "f" ∷ step_fields e
line_fields (ending e) = codes "e" ∷ step_fields e
line_fields (done hart k) = codes "d" ∷ decimal hart ∷ decimal k ∷ []
line_fields (refused hart k cause preamble) = codes "r" ∷ decimal hart ∷ decimal k ∷ cause_text cause ∷ decimal preamble ∷ []

-- a line up to its newline
abbrev pub line_body : Line → List ℕ
line_body line = joined_by space_byte (line_fields line)

-- a line of these fields with its newline
abbrev pub ended_line : List (List ℕ) → List ℕ
ended_line fields = joined_by space_byte fields ++ newline

abbrev pub line_text : Line → List ℕ
line_text line = ended_line (line_fields line)

-- the fields of the first line: what the text is, its version, and the number of harts
abbrev pub header_fields : List ℕ → ℕ → List (List ℕ)
header_fields kind harts = kind ∷ codes "1" ∷ decimal harts ∷ []

-- the first line up to its newline
abbrev pub header_body : List ℕ → ℕ → List ℕ
header_body kind harts = joined_by space_byte (header_fields kind harts)

abbrev pub header_text : List ℕ → ℕ → List ℕ
header_text kind harts = ended_line (header_fields kind harts)

-- the trace of so many harts
abbrev pub trace_text : ℕ → List Line → List ℕ
trace_text harts lines = header_text (codes "trace") harts ++ flat_map line_text lines

-- so many steps of one hart, one after another
pub record Turns : Type 0 where
  pub hart : ℕ
  pub count : ℕ

-- one step more in front
abbrev pub with_turn : ℕ → List Turns → List Turns
with_turn hart [] = record { hart = hart; count = 1 } ∷ []
with_turn hart (t ∷ ts) =
    if t.hart == hart then record { hart = hart; count = t.count + 1 } ∷ ts else record { hart = hart; count = 1 } ∷ t ∷ ts

-- the longest runs of steps of one hart
abbrev pub turns_of : List ℕ → List Turns
turns_of [] = []
turns_of (hart ∷ order) = with_turn hart (turns_of order)

-- the fields of a line of an order behind the first: HART COUNT
abbrev pub turns_fields : Turns → List (List ℕ)
turns_fields t = decimal t.hart ∷ decimal t.count ∷ []

abbrev pub turns_text : Turns → List ℕ
turns_text t = ended_line (turns_fields t)

-- the order in which so many harts step
abbrev pub order_text : ℕ → List ℕ → List ℕ
order_text harts order = header_text (codes "order") harts ++ flat_map turns_text (turns_of order)
