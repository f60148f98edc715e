-- Laws of a step.
use Rattle.std.specs.Prelude.{ℕ, ◌≡◌, List, Option, Some, None, IsSome, Bool, true, false}
use Rattle.std.specs.List.{AllByRecursion}
use Rattle.rv_fields.specs.declared.access.AccessKind.TheVariants.{Sc}
use Rattle.rv_fields.specs.declared.class.Class.{Class}
use Rattle.rv_fields.specs.declared.class.Class.TheVariants.{Accesses, ChangesCsr}
use Rattle.rv_fields.specs.declared.class.Extension.{Extension}
use Rattle.rv_fields.specs.declared.csr.Csr.{Csr}
use Rattle.rv_fields.specs.declared.csr.Csr.TheVariants.{Mcause, Mtval}
use Rattle.rv_fields.specs.Class.{class_of}
use Rattle.rv_fields.specs.CsrFile.{CsrFile}
use Rattle.rv_fields.specs.Decode.{Decoded, decoded, sources}
use Rattle.rv_fields.specs.Effect.{Accessed, Entry}
use Rattle.rv_fields.specs.Hart.{Hart, Registers, Reserved, IsComplete}
use Rattle.rv_fields.specs.Memory.{Bytes, Seen, IsWhole, told, granule}
use Rattle.rv_fields.specs.Step.{Stepped, csr_named_by, fetch_walked, step, with_write}
use Rattle.rv_fields.specs.Sv39.{Walked}

-- ---- more told

-- what the first tells, the second tells too
abbrev pub Below : {A : Type 0} → Option A → Option A → Type 0
Below {A} m n = (a : A) → m ≡ Some a → n ≡ Some a

-- the whole tells all that the part tells
pub record Extends (part whole : Seen) : Type 0 where
  pub byte : (a : ℕ) → Below (part.byte a) (whole.byte a)
  pub link : (h g : ℕ) → Below (part.link h g) (whole.link h g)

abbrev pub TellsMore : Registers → Registers → Type 0
TellsMore x y = (r : ℕ) → Below (x r) (y r)

-- the hart with these registers
abbrev pub with_registers : Registers → Hart → Hart
with_registers x hart = record hart { x = x }

-- a step of the hart with these registers: it writes the register that its effect names, and else does the same
abbrev pub from_registers : Registers → Stepped → Stepped
from_registers x s = record { effect = s.effect; hart = with_registers (with_write x s.effect.rd) s.hart }

-- ---- anything in mcause and mtval

abbrev pub with_open : ℕ → ℕ → CsrFile → CsrFile
with_open cause tval file = record file { mcause = cause; mtval = tval }

-- the hart with these registers, and with these numbers in mcause and mtval
abbrev pub opened : Registers → ℕ → ℕ → Hart → Hart
opened x cause tval hart = record hart { x = x; csrs = with_open cause tval hart.csrs }

abbrev pub is_open : Csr → Bool
is_open Mcause = true
is_open Mtval = true
is_open csr = false

abbrev pub is_open_found : Option Csr → Bool
is_open_found None = false
is_open_found (Some csr) = is_open csr

-- an instruction that reads or writes mcause or mtval
abbrev pub names_open : Class → Decoded → Bool
names_open (ChangesCsr change) d = is_open_found (csr_named_by d.ops)
names_open class d = false

abbrev pub names_open_at : Option Decoded → Bool
names_open_at None = false
names_open_at (Some d) = names_open (class_of d.ins) d

-- the word of a step is of a CSR instruction that names mcause or mtval
abbrev pub names_open_in : Option ℕ → Bool
names_open_in None = false
names_open_in (Some word) = names_open_at (decoded word)

-- The step was done from these registers, and with anything in mcause and mtval: it has the same effect, and leaves a hart
-- that differs in these alone. A trap to M puts numbers of its own into mcause and mtval.
pub record DidSame (x : Registers) (s : Stepped) (did : Option Stepped) : Type 0 where
  pub mcause : ℕ
  pub mtval : ℕ
  pub same : did ≡ Some (record { effect = s.effect; hart = opened (with_write x s.effect.rd) mcause mtval s.hart })

-- ---- the laws

-- A hart of which more registers are told, over memory of which more is told, does the same step.
abbrev pub SameOverMore : Type 0
SameOverMore = (part whole : Seen) → Extends part whole → (x : Registers) (hart : Hart) → TellsMore hart.x x
    → (s : Stepped) → step part hart ≡ Some s → step whole (with_registers x hart) ≡ Some (from_registers x s)

-- It does so with anything in mcause and mtval, if the word of the step names neither.
abbrev pub SameWhateverOpen : Type 0
SameWhateverOpen = (part whole : Seen) → Extends part whole → (x : Registers) (cause tval : ℕ) (hart : Hart) → TellsMore hart.x x
    → (s : Stepped) → names_open_in s.effect.word ≡ false → step part hart ≡ Some s → DidSame x s (step whole (opened x cause tval hart))

-- A step leaves the hart's number, and its registers but for the one that its effect names.
pub record StepLeaves (hart : Hart) (s : Stepped) : Type 0 where
  pub effect_hart : s.effect.hart ≡ hart.number
  pub effect_pc : s.effect.pc ≡ hart.pc
  pub number : s.hart.number ≡ hart.number
  pub registers : s.hart.x ≡ with_write hart.x s.effect.rd

abbrev pub EachLeaves : Type 0
EachLeaves = (seen : Seen) (hart : Hart) (s : Stepped) → step seen hart ≡ Some s → StepLeaves hart s

-- ---- all told

-- Where each byte, each link and each register is told there is a step.
abbrev pub StepsWhereAllTold : Type 0
StepsWhereAllTold = (seen : Seen) (hart : Hart) → IsWhole seen → IsComplete hart → IsSome (step seen hart)

-- ---- what a step's effect tells

-- each of the page table entries is told
abbrev pub TellsEach : Bytes → List Entry → Type 0
TellsEach byte trail = AllByRecursion (λ e. told byte e.at 8 ≡ Some (Some e.pte)) trail

-- What has to be told for a step that was done over one memory to be done over another, from these registers. Entries that
-- would lie outside RAM are in no trail: that they aren't there is always known.
pub record Suffices (seen : Seen) (hart : Hart) (s : Stepped) (other : Seen) (x : Registers) : Type 0 where
  -- the entries by which pc is translated
  pub fetch : (w : Walked) → fetch_walked seen hart ≡ Some w → TellsEach other.byte w.trail
  -- the word
  pub word : (pa word : ℕ) → s.effect.pa ≡ Some pa → s.effect.word ≡ Some word → told other.byte pa 4 ≡ Some (Some word)
  -- the entries by which a data address is translated
  pub trail : TellsEach other.byte s.effect.trail
  -- the number that is read
  pub read : (a : Accessed) (n : ℕ) → s.effect.access ≡ Some a → a.read ≡ Some n → told other.byte a.pa a.size ≡ Some (Some n)
  -- for an SC, the hart's link to the granule of its reservation
  pub link : (word : ℕ) (d : Decoded) (size : ℕ) (extended : Extension) (r : Reserved) → s.effect.word ≡ Some word → decoded word ≡ Some d
      → class_of d.ins ≡ Accesses Sc size extended → hart.reserved ≡ Some r
      → Below (seen.link hart.number (granule r.pa)) (other.link hart.number (granule r.pa))
  -- the registers that the instruction reads
  pub registers : (word : ℕ) (d : Decoded) → s.effect.word ≡ Some word → decoded word ≡ Some d
      → AllByRecursion (λ r. Below (hart.x r) (x r)) (sources d)

-- A step depends on nothing but these.
abbrev pub SameWhereTold : Type 0
SameWhereTold = (seen : Seen) (hart : Hart) (s : Stepped) (other : Seen) (x : Registers) → step seen hart ≡ Some s
    → Suffices seen hart s other x → step other (with_registers x hart) ≡ Some (from_registers x s)

-- What a step's effect tells is so: the step's own memory and registers tell it.
abbrev pub TellsWhatIs : Type 0
TellsWhatIs = (seen : Seen) (hart : Hart) (s : Stepped) → step seen hart ≡ Some s → Suffices seen hart s seen hart.x
