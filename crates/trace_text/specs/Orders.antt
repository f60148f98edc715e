-- The form of an order, and the order that a text in this form tells.
use Rattle.std.specs.Prelude.{ℕ, ◌+◌, ◌-◌, ◌<◌, ◌≤◌, List, [], ◌∷◌, length, drop, replicate, codes, Option, Some, None, All, get_or}
use Rattle.std.specs.List.{flat_map}
use Rattle.std.specs.Str.Parse.{digits_value}
use Rattle.rv_fields.specs.Play.{most_harts}
use Rattle.trace_fields.specs.Fields.{FieldTest, Place, fields_in, is_word, is_decimal, is_another_hart}
use Rattle.trace_text.specs.Forms.{Form, fault_of, lines_of_text}

-- so many steps at most
abbrev pub most_steps : ℕ
most_steps = 1048576

-- The order in which 1 to 16 harts step.
pub record IsOrder (harts : ℕ) (order : List ℕ) : Type 0 where
  pub some : 1 ≤ harts
  pub most : harts ≤ most_harts
  pub named : All (λ hart. hart < harts) order
  pub short : length order ≤ most_steps

-- What is known behind some lines of an order.
pub data SoFar : Type 0 where
  nothing : SoFar
  -- the harts, the hart of the line before where there is one, and how many steps the lines have
  turns_so_far : ℕ → Option ℕ → ℕ → SoFar

-- the first line names the file's kind, version 1 and the number of harts
abbrev pub first_line_tests : List ℕ → List FieldTest
first_line_tests kind = is_word kind ∷ is_word (codes "1") ∷ is_decimal 1 (most_harts + 1) ∷ []

abbrev pub order_tests : SoFar → List (List ℕ) → List FieldTest
order_tests nothing fields = first_line_tests (codes "order")
order_tests (turns_so_far harts last steps) fields = is_another_hart harts last ∷ is_decimal 1 (most_steps - steps + 1) ∷ []

-- the number that a field's decimal digits write
abbrev pub number_in : List (List ℕ) → ℕ → ℕ
number_in fields k = digits_value 10 (get_or fields k [])

abbrev pub order_after : SoFar → List (List ℕ) → SoFar
order_after nothing fields = turns_so_far (number_in fields 2) None 0
order_after (turns_so_far harts last steps) fields = turns_so_far harts (Some (number_in fields 0)) (steps + number_in fields 1)

abbrev pub order_form : Form SoFar
order_form = record { tests = order_tests; after = order_after }

abbrev pub order_fault : List ℕ → Option Place
order_fault text = fault_of order_form nothing text

-- the steps of a line behind the first
abbrev pub steps_of : List ℕ → List ℕ
steps_of line = replicate (number_in (fields_in line) 1) (number_in (fields_in line) 0)

-- the number of harts and the order that a text without a fault tells
abbrev pub harts_told : List ℕ → ℕ
harts_told text = number_in (fields_in (get_or (lines_of_text text) 0 [])) 2

abbrev pub order_told : List ℕ → List ℕ
order_told text = flat_map steps_of (drop 1 (lines_of_text text))
