-- What the boot of a hart does, from every reset: it loads the values of its tables, and goes on at its start.
use Rattle.std.specs.Prelude.{ℕ, ◌≡◌, ◌+◌, ◌<◌, ◌≤◌, ◌^◌, ◌⊎◌, ⊤, List, [], ◌∷◌, ◌++◌, map, take, Some, None}
use Rattle.std.specs.List.{range_with_len}
use Rattle.rv_fields.specs.declared.csr.Csr.{Csr}
use Rattle.rv_fields.specs.declared.csr.Csr.TheVariants.{Mstatus, Satp}
use Rattle.rv_fields.specs.Effect.{Effect}
use Rattle.rv_fields.specs.Field.{field_of}
use Rattle.rv_fields.specs.Hart.{Hart, IsComplete}
use Rattle.rv_fields.specs.Memory.{Bytes, Seen, after_access, told}
use Rattle.rv_fields.specs.Play.{IsReset, most_harts}
use Rattle.rv_fields.specs.Status.{HasMode, mprv, satp_mode}
use Rattle.rv_fields.specs.Step.{Stepped, step}
use Rattle.rv_fields.specs.Trap.{mret_done, mret_mode}
use Rattle.boot_words.specs.Boot.{boot_block, boot_csr_list, dispatcher}
use Rattle.boot_words.specs.Layout.{boot_block_at, boot_csrs_at, boot_registers_at, dispatcher_at}
use Rattle.boot_words.specs.Startup.{loaded_csrs}

-- ---- what a boot needs

-- What it loads: the values of the CSRs, and of x1 to x31.
pub record Loads : Type 0 where
  pub csrs : Csr → ℕ
  pub x : ℕ → ℕ

-- Any numbers of 64 bits may be loaded, but that mstatus has the number of a mode in MPP and leaves the loads behind it as they
-- are, and that satp names no translation or Sv39.
pub record AreLoadable (loads : Loads) : Type 0 where
  pub csrs : (csr : Csr) → loads.csrs csr < 2 ^ 64
  pub x : (r : ℕ) → loads.x r < 2 ^ 64
  pub mode : HasMode (loads.csrs Mstatus)
  pub untranslated : field_of mprv (loads.csrs Mstatus) ≡ 0
  pub translation : (field_of satp_mode (loads.csrs Satp) ≡ 0) ⊎ (field_of satp_mode (loads.csrs Satp) ≡ 8)

-- numbers of so many bytes stand one behind another from the address on
abbrev pub HoldsEach : Bytes → ℕ → ℕ → List ℕ → Type 0
HoldsEach byte size at [] = ⊤
HoldsEach byte size at (n ∷ ns) = (told byte at size ≡ Some (Some n)) × HoldsEach byte size (at + size) ns

-- memory has the dispatcher of so many harts, a hart's boot block, and its tables
pub record HoldsBoot (harts h : ℕ) (loads : Loads) (byte : Bytes) : Type 0 where
  pub dispatcher : HoldsEach byte 4 dispatcher_at (dispatcher harts)
  pub block : HoldsEach byte 4 (boot_block_at h) boot_block
  pub csrs : HoldsEach byte 8 (boot_csrs_at h) (map loads.csrs boot_csr_list)
  pub registers : HoldsEach byte 8 (boot_registers_at h) (map loads.x (range_with_len 1 31))

-- ---- what it does

-- the word is executed without a trap, and memory is as before
pub record IsQuiet (seen : Seen) (h word : ℕ) (effect : Effect) : Type 0 where
  pub hart : effect.hart ≡ h
  pub executes : effect.word ≡ Some word
  pub trap : effect.trap ≡ None
  pub memory : after_access h effect.access seen ≡ seen

-- the hart's next steps execute these words, one after another, and lead to the end
abbrev pub Executes : Seen → ℕ → Hart → List ℕ → Hart → Type 0
Executes seen h hart [] end = end ≡ hart
Executes seen h hart (word ∷ words) end =
    (s : Stepped) × (step seen hart ≡ Some s) × IsQuiet seen h word s.effect × Executes seen h s.hart words end

-- the steps of a boot in the dispatcher: one for each instruction but the last, at which a hart waits
abbrev pub dispatcher_steps : ℕ
dispatcher_steps = 7

-- these instructions, and the whole block
abbrev pub booting_words : ℕ → List ℕ
booting_words harts = take dispatcher_steps (dispatcher harts) ++ boot_block

-- how many these are
abbrev pub boot_steps : ℕ
boot_steps = 70

-- The hart stands where mret has led it: at the address in mepc, in the mode in MPP, without a reservation, with the values that
-- were loaded. Of mcause and mtval nothing is said.
pub record IsBootedBy (h : ℕ) (loads : Loads) (hart : Hart) : Type 0 where
  pub number : hart.number ≡ h
  pub pc : hart.pc ≡ (loaded_csrs h loads.csrs).mepc
  pub mode : hart.mode ≡ mret_mode (loaded_csrs h loads.csrs)
  pub csrs : hart.csrs ≡ record (mret_done (loaded_csrs h loads.csrs)) { mcause = hart.csrs.mcause; mtval = hart.csrs.mtval }
  pub reserved : hart.reserved ≡ None
  pub zero : hart.x 0 ≡ Some 0
  pub registers : (r : ℕ) → 1 ≤ r → r < 32 → hart.x r ≡ Some (loads.x r)
  pub complete : IsComplete hart

-- From every reset of a hart, over any memory that holds its boot, it boots.
abbrev pub BootsAlways : Type 0
BootsAlways = (harts h : ℕ) (loads : Loads) (seen : Seen) (hart : Hart) → h < harts → harts ≤ most_harts → AreLoadable loads
    → HoldsBoot harts h loads seen.byte → IsReset h hart → (end : Hart) × Executes seen h hart (booting_words harts) end × IsBootedBy h loads end
