-- The form of a trace, and the traces that it spells.
use Rattle.std.specs.Prelude.{ℕ, ◌<◌, ◌≤◌, false, List, [], ◌∷◌, length, codes, get_or, Option, Some, None, IfSome, MatchOption, if◌then◌else◌}
use Rattle.std.specs.List.{AllByRecursion}
use Rattle.std.specs.Str.{bytes_eq}
use Rattle.rv_fields.specs.Effect.{Effect}
use Rattle.rv_fields.specs.Play.{most_harts}
use Rattle.trace_fields.specs.Bounds.{count_bound, hex_bound, register_bound, space_bound, most_entries, word_bound}
use Rattle.trace_text.specs.Lines.{Line, hart_of, request, picked, weighed, fixed, given, settled, touched, made, found, ending, done, refused}
use Rattle.trace_fields.specs.Numbers.{decimal_below, word_reading}
use Rattle.trace_fields.specs.Fields.{FieldTest, Place, is_word, tells}
use Rattle.trace_text.specs.Forms.{Form, fault_of}
use Rattle.trace_text.specs.Orders.{first_line_tests, number_in}
use Rattle.trace_fields.specs.Readings.{preambles, kind_reading, cause_reading, name_reading, count_reading, hex_reading, register_reading, space_reading, number_reading, path_reading, bytes_reading, optional, write_reading, access_reading, trail_reading, trap_reading}
use Rattle.trace_fields.specs.Ranges.{IsAnyOf, IsName, IsWrite, IsAccess, IsEntry, IsTrap, IsPath, AreFixedBytes}

-- The ranges that a trace keeps.

-- a step line has a physical address and a word
pub record IsStep (e : Effect) : Type 0 where
  pub pc : e.pc < hex_bound
  pub pa : MatchOption e.pa ⊥ (λ pa. pa < hex_bound)
  pub word : MatchOption e.word ⊥ (λ word. word < word_bound)
  pub rd : IfSome e.rd IsWrite
  pub access : IfSome e.access IsAccess
  pub short : length e.trail ≤ most_entries
  pub trail : AllByRecursion IsEntry e.trail
  pub trap : IfSome e.trap IsTrap

-- what a line tells is in its ranges
abbrev pub KeepsRanges : Line → Type 0
KeepsRanges (request hart k kind) = k < count_bound
KeepsRanges (picked hart tree leaf drawn) = IsName tree × IsName leaf × (drawn < hex_bound)
KeepsRanges (weighed hart tree path weight) = IsName tree × IsPath path × (weight < count_bound)
KeepsRanges (fixed hart register value) = (1 ≤ register) × (register < register_bound) × (value < hex_bound)
KeepsRanges (given hart object page frame) = IsName object × (page < count_bound) × (frame < count_bound)
KeepsRanges (settled hart space entry) = (space < space_bound) × IsEntry entry
KeepsRanges (touched hart at bytes) = (at < hex_bound) × AreFixedBytes bytes
KeepsRanges (made e) = IsStep e
KeepsRanges (found e) = IsStep e
KeepsRanges (ending e) = IsStep e
KeepsRanges (done hart k) = k < count_bound
KeepsRanges (refused hart k cause preamble) = (k < count_bound) × IsAnyOf preambles preamble

-- a line of one of so many harts
pub record IsLine (harts : ℕ) (line : Line) : Type 0 where
  pub hart : hart_of line < harts
  pub ranges : KeepsRanges line

-- lines of 1 to 16 harts
pub record IsTrace (harts : ℕ) (lines : List Line) : Type 0 where
  pub some : 1 ≤ harts
  pub most : harts ≤ most_harts
  pub are_lines : AllByRecursion (IsLine harts) lines

-- The tests of the fields.

-- a kind of line: its first field, and the tests of the fields behind the hart
pub record LineForm : Type 0 where
  pub key : List ℕ
  pub tests : List FieldTest

abbrev pub request_form : LineForm
request_form = record { key = codes "q"; tests = tells count_reading ∷ tells kind_reading ∷ [] }

abbrev pub picked_form : LineForm
picked_form = record { key = codes "p"; tests = tells name_reading ∷ tells name_reading ∷ tells hex_reading ∷ [] }

abbrev pub weighed_form : LineForm
weighed_form = record { key = codes "w"; tests = tells name_reading ∷ tells path_reading ∷ tells count_reading ∷ [] }

abbrev pub fixed_form : LineForm
fixed_form = record { key = codes "x"; tests = tells register_reading ∷ tells hex_reading ∷ [] }

abbrev pub given_form : LineForm
given_form = record { key = codes "g"; tests = tells name_reading ∷ tells count_reading ∷ tells count_reading ∷ [] }

abbrev pub settled_form : LineForm
settled_form = record { key = codes "m"; tests = tells space_reading ∷ tells hex_reading ∷ tells hex_reading ∷ [] }

abbrev pub touched_form : LineForm
touched_form = record { key = codes "y"; tests = tells hex_reading ∷ tells bytes_reading ∷ [] }

abbrev pub step_tests : List FieldTest
step_tests = tells hex_reading ∷ tells hex_reading ∷ tells word_reading ∷ tells (optional write_reading) ∷ tells (optional access_reading) ∷ tells trail_reading ∷ tells (optional trap_reading) ∷ []

-- the step lines differ by their first field alone
abbrev pub step_form : List ℕ → LineForm
step_form key = record { key = key; tests = step_tests }

abbrev pub done_form : LineForm
done_form = record { key = codes "d"; tests = tells count_reading ∷ [] }

abbrev pub refused_form : LineForm
refused_form = record { key = codes "r"; tests = tells count_reading ∷ tells cause_reading ∷ tells (number_reading preambles) ∷ [] }

abbrev pub line_forms : List LineForm
line_forms =
    request_form ∷ picked_form ∷ weighed_form ∷ fixed_form ∷ given_form ∷ settled_form ∷ touched_form ∷ step_form (codes "s") ∷ step_form (codes "f")
    ∷ step_form (codes "e") ∷ done_form ∷ refused_form ∷ []

-- the tests of the fields behind the first, where these are the tests of those behind the hart
abbrev pub tests_behind : ℕ → List FieldTest → List FieldTest
tests_behind harts tests = tells (decimal_below harts) ∷ tests

-- the tests of a line with this first field; where no form has it, it is wrong
abbrev pub tests_for : ℕ → List ℕ → List LineForm → List FieldTest
tests_for harts key [] = (λ field. false) ∷ []
tests_for harts key (form ∷ forms) =
    if bytes_eq form.key key then is_word key ∷ tests_behind harts form.tests else tests_for harts key forms

-- What is known behind some lines: the number of harts, behind the first.
abbrev pub trace_tests : Option ℕ → List (List ℕ) → List FieldTest
trace_tests None fields = first_line_tests (codes "trace")
trace_tests (Some harts) fields = tests_for harts (get_or fields 0 []) line_forms

abbrev pub trace_after : Option ℕ → List (List ℕ) → Option ℕ
trace_after None fields = Some (number_in fields 2)
trace_after (Some harts) fields = Some harts

abbrev pub trace_form : Form (Option ℕ)
trace_form = record { tests = trace_tests; after = trace_after }

abbrev pub trace_fault : List ℕ → Option Place
trace_fault text = fault_of trace_form None text
