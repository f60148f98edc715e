-- Which values the boot leaves in the CSRs: those that it wrote, whatever was there at reset.
use Rattle.std.proofs.Common.{ℕ, zero, suc, ◌-◌, ◌+◌, ◌^◌, ◌<◌, ◌≡◌, false, cond, eqb, eq-eqb, map, refl, sym, ap, ◌∙◌, arith, lit<, lit≤, inl, inr, ◌⊎◌}
use Rattle.std.specs.Prelude.{bit_and, bit_or, ◌||◌}
use Rattle.std.specs.Int.{bit_at}
use Rattle.std.proofs.lemmas.Bool.{ne_eqb}
use Rattle.std.proofs.lemmas.Nat.{and_assoc}
use Rattle.std.specs.Int.Bits.{and_zero_r}
use Rattle.rv_fields.specs.declared.csr.Csr.{Csr}
use Rattle.rv_fields.specs.declared.csr.Csr.TheVariants.{Stvec, Sscratch, Sepc, Scause, Stval, Satp, Mstatus, Medeleg, Mideleg, Mie, Mtvec, Mscratch, Mepc, Pmpcfg0, Pmpaddr0}
use Rattle.rv_fields.specs.Csr.{all_bits, csr_row, no_bits}
use Rattle.rv_fields.specs.CsrFile.{CsrFile, changed_bits, is_read_only, written, written_each}
use Rattle.rv_fields.specs.Field.{field_of, masked, with_field}
use Rattle.rv_fields.specs.Ranges.{IsLegal}
use Rattle.rv_fields.specs.Status.{HasMode, mpp, mprv, satp_mode}
use Rattle.rv_fields.proofs.Legal.{Within}
use Rattle.rv_fields.proofs.Masks.{field_of-masked_inside}
use Rattle.boot_words.specs.Boot.{boot_csr_list}
use Rattle.boot_words.specs.Booting.{AreLoadable, Loads}
use Rattle.boot_words.specs.Startup.{loaded_csrs}
use Rattle.boot_words.proofs.Loading.{AllSuit, Suits}

-- where a register has no bit beyond those that are written, what it held is gone
cleared : (mask old new : ℕ) → bit_and mask (2 ^ 64 - 1 - mask) ≡ 0 → Within old mask → masked mask old new ≡ masked mask 0 new
unfolding masked
cleared mask old new apart within =
    let gone : bit_and old (2 ^ 64 - 1 - mask) ≡ 0 =
    ap (λ o. bit_and o (2 ^ 64 - 1 - mask)) (sym within) ∙ and_assoc (2 ^ 64 - 1 - mask) old mask ∙ ap (bit_and old) apart ∙ and_zero_r old in
    ap (λ o. bit_or o (bit_and new mask)) gone

gone : (csr : Csr) (old value : ℕ) → bit_and (csr_row csr).writable (2 ^ 64 - 1 - (csr_row csr).writable) ≡ 0 → changed_bits csr value ≡ (csr_row csr).writable
    → Within old (csr_row csr).writable → masked (changed_bits csr value) old value ≡ masked (changed_bits csr value) 0 value
gone csr old value apart all within =
    ap (λ mask. masked mask old value) all ∙ cleared (csr_row csr).writable old value apart within ∙ ap (λ mask. masked mask 0 value) (sym all)

-- the bits that a write of a loadable value changes are all those of the register
all_of_mstatus : (value : ℕ) → HasMode value → changed_bits Mstatus value ≡ (csr_row Mstatus).writable
unfolding masked with_field
all_of_mstatus value has = ap (λ t. cond t 0x7e01aa (csr_row Mstatus).writable) (ne_eqb (field_of mpp value) 2 has)

all_of_satp : (value : ℕ) → (field_of satp_mode value ≡ 0) ⊎ (field_of satp_mode value ≡ 8) → changed_bits Satp value ≡ (csr_row Satp).writable
all_of_satp value kind =
    elim kind [
      | inl none ↦ ap (λ t. cond (t || eqb (field_of satp_mode value) 8) all_bits no_bits) (eq-eqb (field_of satp_mode value) 0 none)
      | inr sv39 ↦ ap (λ n. cond (eqb n 0 || eqb n 8) all_bits no_bits) sv39
    ]

-- ---- all of them suit

mprv_taken : (i : ℕ) → i < 1 → bit_at 0x7e19aa (17 + i) ≡ 1
mprv_taken zero below = refl
mprv_taken (suc i) below = absurd (omega arith)

pub all_suit : (loads : Loads) → AreLoadable loads → AllSuit loads.csrs boot_csr_list
unfolding written
all_suit loads ok = (
  record { open_to = refl; small = ok.csrs Mstatus; leaves = λ file before. mstatus_leaves file.mstatus },
  (
    other Medeleg refl (λ file. refl),
    (
      other Mideleg refl (λ file. refl),
      (
        other Mie refl (λ file. refl),
        (
          other Mtvec refl (λ file. refl),
          (
            other Mscratch refl (λ file. refl),
            (
              other Mepc refl (λ file. refl),
              (
                other Stvec refl (λ file. refl),
                (
                  other Sscratch refl (λ file. refl),
                  (
                    other Sepc refl (λ file. refl),
                    (
                      other Scause refl (λ file. refl),
                      (
                        other Stval refl (λ file. refl),
                        (
                          other Satp refl (λ file. refl),
                          (other Pmpaddr0 refl (λ file. refl), (other Pmpcfg0 refl (λ file. refl), tt)),
                        ),
                      ),
                    ),
                  ),
                ),
              ),
            ),
          ),
        ),
      ),
    ),
  ),
)
  where
    mstatus_leaves : (old : ℕ) → field_of mprv (masked (changed_bits Mstatus (loads.csrs Mstatus)) old (loads.csrs Mstatus)) ≡ 0
    mstatus_leaves old =
        ap (λ mask. field_of mprv (masked mask old (loads.csrs Mstatus))) (all_of_mstatus (loads.csrs Mstatus) ok.mode)
        ∙ field_of-masked_inside mprv 0x7e19aa old (loads.csrs Mstatus) (lit≤ tt) (lit< tt) mprv_taken ∙ ok.untranslated

    other : (csr : Csr) → is_read_only csr ≡ false → ((file : CsrFile) → (written file csr (loads.csrs csr)).mstatus ≡ file.mstatus) → Suits csr (loads.csrs csr)
    other csr open_to same = record { open_to = open_to; small = ok.csrs csr; leaves = λ file before. ap (field_of mprv) (same file) ∙ before }

-- ---- whatever was there

-- of a file that is legal nothing is left but mcause and mtval, which the boot doesn't write
pub all_overwritten : (file : CsrFile) (loads : Loads) → IsLegal file → AreLoadable loads
    → written_each file boot_csr_list (map loads.csrs boot_csr_list)
    ≡ record (loaded_csrs file.mhartid loads.csrs) { mcause = file.mcause; mtval = file.mtval }
unfolding written
all_overwritten file loads legal ok =
    rw (
      gone Mstatus file.mstatus (loads.csrs Mstatus) refl (all_of_mstatus (loads.csrs Mstatus) ok.mode) (legal.bits Mstatus),
      gone Medeleg file.medeleg (loads.csrs Medeleg) refl refl (legal.bits Medeleg),
      gone Mideleg file.mideleg (loads.csrs Mideleg) refl refl (legal.bits Mideleg),
      gone Mie file.mie (loads.csrs Mie) refl refl (legal.bits Mie),
      gone Mtvec file.mtvec (loads.csrs Mtvec) refl refl (legal.bits Mtvec),
      gone Mscratch file.mscratch (loads.csrs Mscratch) refl refl (legal.bits Mscratch),
      gone Mepc file.mepc (loads.csrs Mepc) refl refl (legal.bits Mepc),
      gone Stvec file.stvec (loads.csrs Stvec) refl refl (legal.bits Stvec),
      gone Sscratch file.sscratch (loads.csrs Sscratch) refl refl (legal.bits Sscratch),
      gone Sepc file.sepc (loads.csrs Sepc) refl refl (legal.bits Sepc),
      gone Scause file.scause (loads.csrs Scause) refl refl (legal.bits Scause),
      gone Stval file.stval (loads.csrs Stval) refl refl (legal.bits Stval),
      gone Satp file.satp (loads.csrs Satp) refl (all_of_satp (loads.csrs Satp) ok.translation) (legal.bits Satp),
      gone Pmpaddr0 file.pmpaddr0 (loads.csrs Pmpaddr0) refl refl (legal.bits Pmpaddr0),
      gone Pmpcfg0 file.pmpcfg0 (loads.csrs Pmpcfg0) refl refl (legal.bits Pmpcfg0),
    ) refl
