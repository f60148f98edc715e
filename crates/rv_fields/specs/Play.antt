-- Machines: harts that step over one memory, in a given order.
use Rattle.std.specs.Prelude.{ℕ, ◌≡◌, ◌<◌, ◌^◌, List, [], ◌∷◌, length, Some, None}
use Rattle.std.specs.List.{AllByRecursion}
use Rattle.rv_fields.specs.declared.mode.Mode.TheVariants.{M}
use Rattle.rv_fields.specs.CsrFile.{reset}
use Rattle.rv_fields.specs.Effect.{Effect}
use Rattle.rv_fields.specs.Hart.{Hart, updated}
use Rattle.rv_fields.specs.Memory.{Seen, after_access, ram_start}
use Rattle.rv_fields.specs.Step.{step, Stepped}

-- what is told of memory and links, and the harts by their numbers
pub record Machine : Type 0 where
  pub seen : Seen
  pub harts : ℕ → Hart

-- the machine after a step of a hart: its effect alone tells what it left of memory
abbrev pub after_step : Machine → ℕ → Stepped → Machine
after_step machine h s = record { seen = after_access h s.effect.access machine.seen; harts = updated machine.harts h s.hart }

-- One step of the named hart for each number of the order gives exactly these effects, and leads to the end.
abbrev pub Plays : Machine → List ℕ → List Effect → Machine → Type 0
Plays machine [] [] end = end ≡ machine
Plays machine (h ∷ order) (e ∷ effects) end = (s : Stepped)
    × (step machine.seen (machine.harts h) ≡ Some s)
    × (s.effect ≡ e)
    × Plays (after_step machine h s) order effects end
Plays machine [] (e ∷ effects) end = ⊥
Plays machine (h ∷ order) [] end = ⊥

-- the address at which harts begin
abbrev pub reset_pc : ℕ
reset_pc = ram_start

-- the most harts that a job, an order or a trace has
abbrev pub most_harts : ℕ
most_harts = 16

-- The hart stands at reset: in mode M, without a reservation, and with any values in its registers. Its CSRs are what
-- writes of any raw values leave, but for MIE and MPRV in mstatus, which are 0, and mhartid, which is its number.
pub record IsReset (h : ℕ) (hart : Hart) : Type 0 where
  pub number : hart.number ≡ h
  pub pc : hart.pc ≡ reset_pc
  pub mode : hart.mode ≡ M
  pub reserved : hart.reserved ≡ None
  pub zero : hart.x 0 ≡ Some 0
  pub registers : (r : ℕ) → (v : ℕ) × (hart.x r ≡ Some v) × (v < 2 ^ 64)
  pub raw : List ℕ
  pub raw_count : length raw ≡ 19
  pub raw_small : AllByRecursion (λ v. v < 2 ^ 64) raw
  pub csrs : hart.csrs ≡ reset h raw
