-- A hart: what it keeps between two steps.
use Rattle.std.specs.Prelude.{ℕ, ◌≡◌, ◌==◌, Option, Some, if◌then◌else◌}
pub use Rattle.rv_fields.specs.declared.access.Reserved.{Reserved}
use Rattle.rv_fields.specs.declared.mode.Mode.{Mode}
use Rattle.rv_fields.specs.CsrFile.{CsrFile}

-- a function that is as before but at one place
abbrev pub updated : {A : Type 0} → (ℕ → A) → ℕ → A → ℕ → A
updated f place a q = if q == place then a else f q

-- the values of registers, where they are told; x0 has 0
abbrev pub Registers : Type 0
Registers = ℕ → Option ℕ

-- Its number, the virtual address of its next instruction, its registers, its mode, its CSRs and its reservation. Of the
-- registers some may have no value told.
pub record Hart : Type 0 where
  pub number : ℕ
  pub pc : ℕ
  pub x : Registers
  pub mode : Mode
  pub csrs : CsrFile
  pub reserved : Option Reserved

-- each register has a value told
pub record IsComplete (hart : Hart) : Type 0 where
  pub told : (r : ℕ) → (v : ℕ) × (hart.x r ≡ Some v)
