-- What the numbers are that CSRs, harts and memory hold.
use Rattle.std.specs.Prelude.{ℕ, ◌≡◌, ◌*◌, ◌%◌, ◌^◌, ◌<◌, ◌⊎◌, true, List, Option, Some, IfSome, bit_and}
use Rattle.std.specs.List.{AllByRecursion}
use Rattle.rv_fields.specs.declared.csr.Csr.{Csr}
use Rattle.rv_fields.specs.declared.csr.Csr.TheVariants.{Mhartid}
use Rattle.rv_fields.specs.declared.mode.Mode.{Mode}
use Rattle.rv_fields.specs.Csr.{csr_row}
use Rattle.rv_fields.specs.CsrFile.{CsrFile, held, reset, source, written}
use Rattle.rv_fields.specs.Effect.{Accessed, Effect, Entry, Trap}
use Rattle.rv_fields.specs.Field.{field_of}
use Rattle.rv_fields.specs.Hart.{Hart, Reserved}
use Rattle.rv_fields.specs.Memory.{Bytes, IsSize, Seen, after_access, in_ram}
use Rattle.rv_fields.specs.Play.{IsReset}
use Rattle.rv_fields.specs.Status.{HasMode, satp_mode}
use Rattle.rv_fields.specs.Step.{Stepped, step}
use Rattle.rv_fields.specs.Trap.{mret_done, sret_done, trapped}

-- ---- CSRs

-- A register holds no bit that a write doesn't change; sstatus is a view of mstatus. The hart's number isn't written.
abbrev pub MayHold : Csr → ℕ → Type 0
MayHold Mhartid n = n < 2 ^ 64
MayHold csr n = bit_and n (csr_row (source csr)).writable ≡ n

-- Each register holds a value that it may hold: MPP is the number of a mode, and satp names no translation or Sv39.
pub record IsLegal (file : CsrFile) : Type 0 where
  pub bits : (csr : Csr) → MayHold csr (held file csr)
  pub mode : HasMode file.mstatus
  pub translation : (field_of satp_mode file.satp ≡ 0) ⊎ (field_of satp_mode file.satp ≡ 8)

-- It does so at reset, and after each change.
abbrev pub LegalAtReset : Type 0
LegalAtReset = (hart : ℕ) (raw : List ℕ) → hart < 2 ^ 64 → IsLegal (reset hart raw)

abbrev pub LegalOnceWritten : Type 0
LegalOnceWritten = (file : CsrFile) (csr : Csr) (value : ℕ) → IsLegal file → IsLegal (written file csr value)

abbrev pub LegalOnceTrapped : Type 0
LegalOnceTrapped = (file : CsrFile) (mode : Mode) (cause epc tval : ℕ) → cause < 2 ^ 64 → tval < 2 ^ 64 → IsLegal file
    → IsLegal (trapped file mode cause epc tval)

abbrev pub LegalOnceReturned : Type 0
LegalOnceReturned = (file : CsrFile) → IsLegal file → IsLegal (mret_done file) × IsLegal (sret_done file)

-- ---- memory

-- each byte that is told is one
abbrev pub AreBytes : Bytes → Type 0
AreBytes byte = (a b : ℕ) → byte a ≡ Some b → b < 2 ^ 8

-- ---- harts

-- a reservation is aligned, and in RAM
pub record ReservedInRange (r : Reserved) : Type 0 where
  pub size : IsSize r.size
  pub aligned : r.pa % r.size ≡ 0
  pub in_it : in_ram r.pa r.size ≡ true

-- The address of the next instruction is one of 64 bits, and a multiple of 4; registers have 64 bits.
pub record HartInRange (hart : Hart) : Type 0 where
  pub pc : hart.pc < 2 ^ 64
  pub aligned : hart.pc % 4 ≡ 0
  pub zero : hart.x 0 ≡ Some 0
  pub registers : (r v : ℕ) → hart.x r ≡ Some v → v < 2 ^ 64
  pub csrs : IsLegal hart.csrs
  pub reserved : IfSome hart.reserved ReservedInRange

-- ---- effects

-- an aligned access to RAM, of numbers of its size
pub record AccessInRange (a : Accessed) : Type 0 where
  pub size : IsSize a.size
  pub va : a.va < 2 ^ 64
  pub va_aligned : a.va % a.size ≡ 0
  pub pa_aligned : a.pa % a.size ≡ 0
  pub in_it : in_ram a.pa a.size ≡ true
  pub read : IfSome a.read (λ n. n < 2 ^ (8 * a.size))
  pub wrote : IfSome a.wrote (λ n. n < 2 ^ (8 * a.size))

-- where a word is fetched from
pub record FetchInRange (pa : ℕ) : Type 0 where
  pub aligned : pa % 4 ≡ 0
  pub in_it : in_ram pa 4 ≡ true

pub record EntryInRange (e : Entry) : Type 0 where
  pub aligned : e.at % 8 ≡ 0
  pub in_it : in_ram e.at 8 ≡ true
  pub pte : e.pte < 2 ^ 64

pub record WriteInRange (w : ℕ × ℕ) : Type 0 where
  pub written : 0 < w.0
  pub register : w.0 < 32
  pub value : w.1 < 2 ^ 64

pub record TrapInRange (t : Trap) : Type 0 where
  pub cause : t.cause < 16
  pub epc : t.epc < 2 ^ 64
  pub tval : t.tval < 2 ^ 64

pub record EffectInRange (e : Effect) : Type 0 where
  pub pc : e.pc < 2 ^ 64
  pub pa : IfSome e.pa FetchInRange
  pub word : IfSome e.word (λ word. word < 2 ^ 32)
  pub rd : IfSome e.rd WriteInRange
  pub access : IfSome e.access AccessInRange
  pub trail : AllByRecursion EntryInRange e.trail
  pub trap : IfSome e.trap TrapInRange

-- ---- the laws

abbrev pub InRangeAtReset : Type 0
InRangeAtReset = (h : ℕ) (hart : Hart) → h < 2 ^ 64 → IsReset h hart → HartInRange hart

-- A step keeps its hart in range, and its effect is in range too.
abbrev pub RangesStay : Type 0
RangesStay = (seen : Seen) (hart : Hart) (s : Stepped) → AreBytes seen.byte → HartInRange hart → step seen hart ≡ Some s
    → HartInRange s.hart × EffectInRange s.effect

-- Accesses leave bytes.
abbrev pub BytesStay : Type 0
BytesStay = (seen : Seen) (h : ℕ) (access : Option Accessed) → AreBytes seen.byte → AreBytes (after_access h access seen).byte
