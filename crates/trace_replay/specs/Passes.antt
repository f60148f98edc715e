-- What a program, an order and a trace have to be to pass. Nothing here speaks of how they were made.
use Rattle.std.specs.Prelude.{ℕ, ◌≡◌, List, Some, false, nat_lt, if◌then◌else◌}
use Rattle.rv_fields.specs.Hart.{Hart}
use Rattle.rv_fields.specs.Play.{Machine}
use Rattle.trace_text.specs.Lines.{Line, effects_of}
use Rattle.trace_text.specs.Orders.{IsOrder}
use Rattle.trace_text.specs.Text.{order_text, trace_text}
use Rattle.trace_text.specs.Traces.{IsTrace}
use Rattle.boot_words.specs.Passing.{IsAtReset, PlaysAsTold}
use Rattle.elf_file.specs.Loading.{load}
use Rattle.rv_machine.specs.declared.reset.Reset.{Reset}
use Rattle.rv_machine.specs.Views.{absent_hart, reset_hart}

-- Three files are in their forms: one can be loaded, one spells an order of so many harts, and one spells lines of so many.
pub record AreFiles (harts : ℕ) (order : List ℕ) (told_harts : ℕ) (lines : List Line) (elf order_file trace_file : List ℕ) : Type 0 where
  pub loads : (a : ℕ) → (b : ℕ) × (load elf a ≡ Some b)
  pub order_is : order_file ≡ order_text harts order
  pub order_ranges : IsOrder harts order
  pub trace_is : trace_file ≡ trace_text told_harts lines
  pub trace_ranges : IsTrace told_harts lines

-- ---- from every reset

-- The bytes of three files pass by these harts, this order and these lines.
pub record PassesBy (harts : ℕ) (order : List ℕ) (lines : List Line) (elf order_file trace_file : List ℕ) : Type 0 where
  pub files : AreFiles harts order harts lines elf order_file trace_file
  -- Loaded afresh and stepped in the order, from whatever resets, each hart boots, and behind the boots the harts do exactly what the
  -- step lines tell.
  pub plays : (machine : Machine) → IsAtReset harts (load elf) machine → PlaysAsTold harts order (effects_of lines) machine

-- Three files pass. Their order and their lines are theirs alone, since no other has the same spelling.
abbrev pub Passes : List ℕ → List ℕ → List ℕ → Type 0
Passes elf order_file trace_file = (harts : ℕ) × (order : List ℕ) × (lines : List Line) × PassesBy harts order lines elf order_file trace_file

-- ---- from one reset

-- so many harts, each at this reset, and no other
abbrev pub reset_harts : ℕ → Reset → ℕ → Hart
reset_harts harts reset h = if nat_lt h harts then reset_hart h reset else absent_hart

-- they and the program, loaded afresh
abbrev pub machine_at : ℕ → Reset → List ℕ → Machine
machine_at harts reset elf = record { seen = record { byte = load elf; link = λ h g. Some false }; harts = reset_harts harts reset }

-- The same from this reset of each hart.
pub record PassesFromBy (reset : Reset) (harts : ℕ) (order : List ℕ) (lines : List Line) (elf order_file trace_file : List ℕ) : Type 0 where
  pub files : AreFiles harts order harts lines elf order_file trace_file
  pub plays : PlaysAsTold harts order (effects_of lines) (machine_at harts reset elf)

abbrev pub PassesFrom : Reset → List ℕ → List ℕ → List ℕ → Type 0
PassesFrom reset elf order_file trace_file =
    (harts : ℕ) × (order : List ℕ) × (lines : List Line) × PassesFromBy reset harts order lines elf order_file trace_file
