-- No two registers have one number or one name, so the register that is found is the one that has it.
use Rattle.std.proofs.Common.{◌≡◌, ◌↔◌, ℕ, Bool, true, eqb, List, [], ◌∷◌, Some, refl, sym, ap, ◌∙◌, cond, inl, inr, subst}
use Rattle.std.specs.Prelude.{find}
use Rattle.std.specs.Str.{bytes_eq}
use Rattle.std.proofs.lemmas.Bool.{eqb-true, cases_Bool, cond-false}
use Rattle.std.proofs.lemmas.Slice.Eq.{bytes_eq-Decides}
use Rattle.rv_fields.specs.declared.csr.Csr.{Csr}
use Rattle.rv_fields.specs.declared.csr.Csr.TheVariants.{Sstatus, Stvec, Sscratch, Sepc, Scause, Stval, Satp, Mstatus, Medeleg, Mideleg, Mie, Mtvec, Mscratch, Mepc, Mcause, Mtval, Pmpcfg0, Pmpaddr0, Mhartid}
use Rattle.rv_fields.specs.Csr.{all_csrs, csr_number, csr_name, csr_at, csr_called}

at_number : (csr : Csr) → csr_at (csr_number csr) ≡ Some csr
at_number Sstatus = refl
at_number Stvec = refl
at_number Sscratch = refl
at_number Sepc = refl
at_number Scause = refl
at_number Stval = refl
at_number Satp = refl
at_number Mstatus = refl
at_number Medeleg = refl
at_number Mideleg = refl
at_number Mie = refl
at_number Mtvec = refl
at_number Mscratch = refl
at_number Mepc = refl
at_number Mcause = refl
at_number Mtval = refl
at_number Pmpcfg0 = refl
at_number Pmpaddr0 = refl
at_number Mhartid = refl

called : (csr : Csr) → csr_called (csr_name csr) ≡ Some csr
called Sstatus = refl
called Stvec = refl
called Sscratch = refl
called Sepc = refl
called Scause = refl
called Stval = refl
called Satp = refl
called Mstatus = refl
called Medeleg = refl
called Mideleg = refl
called Mie = refl
called Mtvec = refl
called Mscratch = refl
called Mepc = refl
called Mcause = refl
called Mtval = refl
called Pmpcfg0 = refl
called Pmpaddr0 = refl
called Mhartid = refl

-- what is found passes the test
found_passes : (p : Csr → Bool) (csrs : List Csr) (csr : Csr) → find p csrs ≡ Some csr → p csr ≡ true
found_passes p [] csr e = absurd cc
found_passes p (x ∷ xs) csr e =
    elim (cases_Bool (p x)) [
      | inl passes ↦ let x-is : x ≡ csr = (let g : cond (p x) (Some x) (find p xs) ≡ Some csr = e in cc) in subst (λ (y : Csr). p y ≡ true) x-is passes
      | inr fails ↦ found_passes p xs csr (sym (cond-false (p x) (Some x) (find p xs) fails) ∙ e)
    ]

pub one_number : (number : ℕ) (csr : Csr) → (csr_at number ≡ Some csr) ↔ (csr_number csr ≡ number)
one_number number csr = (
  λ e. eqb-true _ _ (found_passes (λ c. eqb (csr_number c) number) all_csrs csr e),
  λ e. ap csr_at (sym e) ∙ at_number csr,
)

pub one_name : (name : List ℕ) (csr : Csr) → (csr_called name ≡ Some csr) ↔ (csr_name csr ≡ name)
one_name name csr = (
  λ e. (bytes_eq-Decides (csr_name csr) name).0 (found_passes (λ c. bytes_eq (csr_name c) name) all_csrs csr e),
  λ e. ap csr_called (sym e) ∙ called csr,
)
