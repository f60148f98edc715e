-- The CSRs of the start of a hart of mode M, as those of a hart at reset.
use Rattle.std.proofs.Common.{ℕ, ◌<◌, ◌≡◌, ◌∙◌, List, [], ◌∷◌, eqb, refl, ap, sym, eqb-true}
use Rattle.rv_fields.specs.declared.mode.Mode.TheVariants.{M}
use Rattle.rv_fields.specs.Csr.{address_bits}
use Rattle.rv_fields.specs.CsrFile.{CsrFile, reset, written, zero_file}
use Rattle.rv_fields.specs.Field.{field_of, masked, with_field}
use Rattle.rv_fields.specs.Trap.{popped}
use Rattle.region_plan.specs.Plan.{no_hart}
use Rattle.boot_words.specs.Layout.{code_start, m_handler_at}
use Rattle.boot_words.specs.Startup.{start_csrs, start_mode}
use Rattle.boot_words.proofs.Words.{holds_below, holds_at}

-- an address of code loses nothing to the bits of mepc
pub code_kept : (h : ℕ) → h < 256 → masked address_bits 0 (code_start h) ≡ code_start h
unfolding holds_below masked
code_kept h small = eqb-true _ _ (holds_at (λ k. eqb (masked address_bits 0 (code_start k)) (code_start k)) 256 refl h small)

-- mret has set MPIE (bit 7) and put mode U in MPP
abbrev pub m_csrs : ℕ → CsrFile
m_csrs h = record zero_file { mstatus = 0x80; mtvec = m_handler_at; mepc = code_start h; stvec = 0x3ffffff000; mhartid = h }

pub start_is : (h : ℕ) → h < 256 → start_csrs no_hart h ≡ m_csrs h
unfolding start_csrs written masked with_field field_of popped
start_is h small = ap (λ pc. record (m_csrs h) { mepc = pc }) (code_kept h small)

pub mode_is : (h : ℕ) → start_mode no_hart h ≡ M
unfolding start_mode written masked with_field field_of
mode_is h = refl

-- the raw values, with this one for mepc
abbrev pub raw_with : ℕ → List ℕ
raw_with mepc =
    0 ∷ 0x3ffffff000 ∷ 0 ∷ 0 ∷ 0 ∷ 0 ∷ 0 ∷ 0x80 ∷ 0 ∷ 0 ∷ 0 ∷ m_handler_at ∷ 0 ∷ mepc ∷ 0 ∷ 0 ∷ 0 ∷ 0 ∷ 0 ∷ []

pub start_of_reset : (h : ℕ) → h < 256 → reset h (raw_with (code_start h)) ≡ start_csrs no_hart h
unfolding reset written masked with_field field_of
start_of_reset h small = ap (λ pc. record (m_csrs h) { mepc = pc }) (code_kept h small) ∙ sym (start_is h small)
