-- The start state of a hart: what its boot leaves.
use Rattle.std.specs.Prelude.{ℕ, map, ◌≡◌, Some, None}
use Rattle.rv_fields.specs.declared.csr.Csr.{Csr}
use Rattle.rv_fields.specs.declared.mode.Mode.{Mode}
use Rattle.rv_fields.specs.CsrFile.{CsrFile, written_each, zero_file}
use Rattle.rv_fields.specs.Hart.{Hart, IsComplete}
use Rattle.rv_fields.specs.Trap.{mret_done, mret_mode}
use Rattle.region_plan.specs.Plan.{HartPlan, Work, plan_of}
use Rattle.boot_words.specs.Boot.{boot_csr, boot_csr_list}
use Rattle.boot_words.specs.Layout.{window_by}

-- The file behind the boot's writes of these values to a hart's CSRs. mcause and mtval, which boot doesn't write, count as 0.
abbrev pub loaded_csrs : ℕ → (Csr → ℕ) → CsrFile
loaded_csrs h values = written_each (record zero_file { mhartid = h }) boot_csr_list (map values boot_csr_list)

-- the CSRs and the mode in which the boot's mret leaves a hart
unfoldable pub start_csrs : HartPlan → ℕ → CsrFile
start_csrs plan h = mret_done (loaded_csrs h (boot_csr plan h))

unfoldable pub start_mode : HartPlan → ℕ → Mode
start_mode plan h = mret_mode (loaded_csrs h (boot_csr plan h))

-- The hart stands at its first code address, in its mode and without a reservation, with anything in mcause and mtval. Of its
-- registers, each of which has a value, x0 alone is told here.
pub record IsStart (work : Work) (h : ℕ) (hart : Hart) : Type 0 where
  pub number : hart.number ≡ h
  pub pc : hart.pc ≡ window_by (plan_of work h) h
  pub mode : hart.mode ≡ start_mode (plan_of work h) h
  pub csrs : hart.csrs ≡ record (start_csrs (plan_of work h) h) { mcause = hart.csrs.mcause; mtval = hart.csrs.mtval }
  pub reserved : hart.reserved ≡ None
  pub zero : hart.x 0 ≡ Some 0
  pub registers : IsComplete hart
