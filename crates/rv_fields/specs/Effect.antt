-- What a step does, as a trace tells it.
use Rattle.std.specs.Prelude.{ℕ, List, Option}
pub use Rattle.rv_fields.specs.declared.access.Accessed.{Accessed}
pub use Rattle.rv_fields.specs.declared.trap.Trap.{Trap}

-- a page table entry, and the physical address at which it stands
pub record Entry : Type 0 where
  pub at : ℕ
  pub pte : ℕ

-- The hart, the virtual and the physical address of the word, the word, the register that it writes with its new value (none
-- where that is x0), what it reads or writes in memory, the page table entries by which that is translated, and the trap.
-- A fetch that faults has neither a physical address nor a word.
pub record Effect : Type 0 where
  pub hart : ℕ
  pub pc : ℕ
  pub pa : Option ℕ
  pub word : Option ℕ
  pub rd : Option (ℕ × ℕ)
  pub access : Option Accessed
  pub trail : List Entry
  pub trap : Option Trap
