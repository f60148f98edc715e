-- Steps of a hart that boots: in mode M, without traps, over memory that stays as it is.
use Rattle.std.proofs.Common.{ℕ, suc, ◌+◌, ◌%◌, ◌^◌, ◌<◌, ◌≡◌, ◌≢◌, Bool, true, false, cond, eqb, eq-eqb, List, [], ◌∷◌, ◌++◌, Some, None, refl, sym, ap, subst, ◌∙◌, arith}
use Rattle.std.specs.Prelude.{not, option_map, pos, ◌&&◌}
use Rattle.std.proofs.lemmas.Bool.{ne_eqb}
use Rattle.rv_fields.specs.declared.access.AccessKind.TheVariants.{Load}
use Rattle.rv_fields.specs.declared.class.Class.TheVariants.{Computes}
use Rattle.rv_fields.specs.declared.class.Extension.TheVariants.{Sign}
use Rattle.rv_fields.specs.declared.csr.Csr.{Csr}
use Rattle.rv_fields.specs.declared.csr.Csr.TheVariants.{Sstatus, Stvec, Sscratch, Sepc, Scause, Stval, Satp, Mstatus, Medeleg, Mideleg, Mie, Mtvec, Mscratch, Mepc, Mcause, Mtval, Pmpcfg0, Pmpaddr0, Mhartid}
use Rattle.rv_fields.specs.declared.mode.Mode.TheVariants.{M}
use Rattle.rv_fields.specs.declared.row_table.Ins.TheVariants.{Ld}
use Rattle.rv_fields.specs.declared.class.CsrChange.TheVariants.{Swap}
use Rattle.rv_fields.specs.Attempt.{◌>>=◌}
use Rattle.rv_fields.specs.Class.{class_of}
use Rattle.rv_fields.specs.Csr.{csr_at, csr_number}
use Rattle.rv_fields.specs.CsrFile.{CsrFile, is_read_only, may_read, may_write, reading, written}
use Rattle.rv_fields.specs.Decode.{Decoded, rs1_read}
use Rattle.rv_fields.specs.Field.{field_of}
use Rattle.rv_fields.specs.Hart.{Hart, IsComplete, updated}
use Rattle.rv_fields.specs.Immediate.{modulo}
use Rattle.rv_fields.specs.Meaning.{computed}
use Rattle.rv_fields.specs.Memory.{Seen, after_access, told}
use Rattle.rv_fields.specs.RowTable.{form_of}
use Rattle.rv_fields.specs.Status.{mprv}
use Rattle.rv_fields.specs.Step.{Aim, Done, Outcome, Stepped, Target, access, accessed, accesses_done, aim_at, behind, csr_changed, csrs_done, data_walked, fetch_walked, goes, illegal, loaded, outcome_by, performed_at, raises, retired, retires, returned_from_m, right_of, step, traps}
use Rattle.rv_fields.specs.Sv39.{Walked, reached}
use Rattle.rv_fields.specs.Trap.{mret_done, mret_mode}
use Rattle.rv_fields.proofs.Course.{executes, retraced}
use Rattle.rv_fields.proofs.MeaningLaws.{doubleword_extended}
use Rattle.rv_encode.specs.Fitting.{misfit}
use Rattle.rv_encode.proofs.Encoded.{encoded_decodes}
use Rattle.boot_words.specs.Boot.{mret, spelled, swap_csr, table_load}
use Rattle.boot_words.specs.Booting.{Executes, IsQuiet}

-- ---- where a hart stands

-- in its boot: in mode M, at the address, with these CSRs
pub record At (h pc : ℕ) (csrs : CsrFile) (hart : Hart) : Type 0 where
  pub number : hart.number ≡ h
  pub pc_is : hart.pc ≡ pc
  pub mode : hart.mode ≡ M
  pub csrs_are : hart.csrs ≡ csrs
  pub reserved : hart.reserved ≡ None
  pub zero_is : hart.x 0 ≡ Some 0
  pub complete : IsComplete hart

-- its next word is the instruction's, whose operands fit
pub record Stands (seen : Seen) (pc : ℕ) (d : Decoded) : Type 0 where
  pub word : told seen.byte pc 4 ≡ Some (Some (spelled d))
  pub fits : misfit (form_of d.ins) d.ops ≡ None

-- a step leads to the hart
pub record Takes (seen : Seen) (h : ℕ) (hart : Hart) (word : ℕ) (next : Hart) : Type 0 where
  pub s : Stepped
  pub steps : step seen hart ≡ Some s
  pub quiet : IsQuiet seen h word s.effect
  pub leads : s.hart ≡ next

-- an instruction that retires
pub retires_to : (seen : Seen) (h pc : ℕ) (csrs : CsrFile) (hart : Hart) (d : Decoded) (a b : ℕ) (done : Done) → At h pc csrs hart → Stands seen pc d
    → hart.x (rs1_read d) ≡ Some a → hart.x d.ops.rs2 ≡ Some b → outcome_by (class_of d.ins) seen hart d (spelled d) a b ≡ Some (retires done)
    → after_access h done.access seen ≡ seen → Takes seen h hart (spelled d) (retired hart hart.pc (spelled d) d.ops.rd done).hart
retires_to seen h pc csrs hart d a b done at stands rs1 rs2 gives kept =
    let word : told seen.byte hart.pc 4 ≡ Some (Some (spelled d)) = ap (λ pc. told seen.byte pc 4) at.pc_is ∙ stands.word in
    record {
      s = retired hart hart.pc (spelled d) d.ops.rd done;
      steps = retraced seen hart _ (executes [] hart.pc (spelled d) d a b (retires done) (bare at.mode) word
          (encoded_decodes d.ins d.ops stands.fits) rs1 rs2 gives);
      quiet = record { hart = at.number; executes = refl; trap = refl; memory = kept };
      leads = refl;
    }
  where
    bare : hart.mode ≡ M → fetch_walked seen hart ≡ Some (record { trail = []; result = reached hart.pc })
    bare is_m = rw is_m refl

-- ---- instructions of the boot

-- the register has the value, and the hart stands behind the instruction
abbrev pub wrote : Hart → ℕ → ℕ → Hart
wrote hart r v = record hart { pc = behind hart.pc; x = updated hart.x (suc r) (Some v) }

behind_is : (pc : ℕ) → pc + 4 < 2 ^ 64 → behind pc ≡ pc + 4
behind_is pc small = omega (arith, small)

pub wrote_at : (h pc : ℕ) (csrs : CsrFile) (hart : Hart) (r v : ℕ) → pc + 4 < 2 ^ 64 → At h pc csrs hart → At h (pc + 4) csrs (wrote hart r v)
wrote_at h pc csrs hart r v small at = record {
  number = at.number;
  pc_is = ap behind at.pc_is ∙ behind_is pc small;
  mode = at.mode;
  csrs_are = at.csrs_are;
  reserved = at.reserved;
  zero_is = rw (ne_eqb 0 (suc r) (let apart : 0 ≢ suc r = omega arith in apart)) at.zero_is;
  complete = record { told = λ q. has q (eqb q (suc r)) (at.complete.told q) };
}
  where
    has : (q : ℕ) (t : Bool) → (n : ℕ) × (hart.x q ≡ Some n) → (n : ℕ) × (cond t (Some v) (hart.x q) ≡ Some n)
    has q true before = (v, refl)
    has q false before = before

-- one that computes
pub computes : (seen : Seen) (h pc : ℕ) (csrs : CsrFile) (hart : Hart) (d : Decoded) (r a b : ℕ) → At h pc csrs hart → Stands seen pc d
    → class_of d.ins ≡ Computes → d.ops.rd ≡ suc r → hart.x (rs1_read d) ≡ Some a → hart.x d.ops.rs2 ≡ Some b
    → Takes seen h hart (spelled d) (wrote hart r (computed d.ins d.ops hart.pc a b))
computes seen h pc csrs hart d r a b at stands row rd rs1 rs2 =
    let done : Done = done_of (goes hart (Some (computed d.ins d.ops hart.pc a b)) (behind hart.pc)) in
    let taken = retires_to seen h pc csrs hart d a b done at stands rs1 rs2 (ap (λ q. outcome_by q seen hart d (spelled d) a b) row) refl in
    record {
      s = taken.s;
      steps = taken.steps;
      quiet = taken.quiet;
      leads = taken.leads ∙ ap (λ n. (retired hart hart.pc (spelled d) n done).hart) rd;
    }
  where
    done_of : Outcome → Done
    done_of (retires done) = done
    done_of (raises cause tval trail) = record { value = None; next = 0; mode = hart.mode; csrs = hart.csrs; reserved = None; access = None; trail = [] }

-- a load by x31
pub loads : (seen : Seen) (h pc : ℕ) (csrs : CsrFile) (hart : Hart) (r base offset v : ℕ) → At h pc csrs hart → Stands seen pc (table_load (suc r) offset)
    → field_of mprv csrs.mstatus ≡ 0 → hart.x 31 ≡ Some base → base + offset < 2 ^ 64 → (base + offset) % 8 ≡ 0
    → told seen.byte (base + offset) 8 ≡ Some (Some v) → v < 2 ^ 64 → Takes seen h hart (spelled (table_load (suc r) offset)) (wrote hart r v)
loads seen h pc csrs hart r base offset v at stands bare x31 small aligned tells fits =
    let same : (base + offset) % 2 ^ 64 ≡ base + offset = omega (arith, small) in
    let gives : access seen hart target ≡ Some (accesses_done hart aim (Some v) hart.reserved (Some (accessed aim (Some v) None))) =
    ap (λ t. cond t (data_walked seen hart (right_of Load) (base + offset) >>= (λ w. performed_at seen hart target w.trail w.result)) (Some (traps 4 (base + offset)))) (eq-eqb ((base + offset) % 8) 0 aligned)
    ∙ ap (λ m. m >>= (λ (w : Walked). performed_at seen hart target w.trail w.result)) untranslated
    ∙ ap (option_map (loaded hart aim)) tells
    ∙ ap (λ n. Some (accesses_done hart aim (Some n) hart.reserved (Some (accessed aim (Some v) None)))) (doubleword_extended v fits)
    in
    retires_to seen h pc csrs hart (table_load (suc r) offset) base 0 done at stands x31 at.zero_is
    (ap (λ va. access seen hart (record target { va = va })) same ∙ gives) refl
  where
    target : Target
    target = record { ins = Ld; rs2 = 0; kind = Load; size = 8; extended = Sign; va = base + offset }

    aim : Aim
    aim = aim_at target (base + offset) []

    done : Done
    done = record {
      value = Some v;
      next = behind hart.pc;
      mode = hart.mode;
      csrs = hart.csrs;
      reserved = hart.reserved;
      access = Some (accessed aim (Some v) None);
      trail = [];
    }

    untranslated : data_walked seen hart (right_of Load) (base + offset) ≡ Some (record { trail = []; result = reached (base + offset) })
    untranslated = rw (at.mode, at.csrs_are, bare) refl

-- a CSR that M may write is found by its number
pub named : (csr : Csr) → csr_at (modulo (2 ^ 12) (pos (csr_number csr))) ≡ Some csr
named Sstatus = refl
named Stvec = refl
named Sscratch = refl
named Sepc = refl
named Scause = refl
named Stval = refl
named Satp = refl
named Mstatus = refl
named Medeleg = refl
named Mideleg = refl
named Mie = refl
named Mtvec = refl
named Mscratch = refl
named Mepc = refl
named Mcause = refl
named Mtval = refl
named Pmpcfg0 = refl
named Pmpaddr0 = refl
named Mhartid = refl

-- M may read each, and write each that isn't read-only
pub m_may_read : (file : CsrFile) (csr : Csr) → may_read file csr M ≡ true
m_may_read file Sstatus = refl
m_may_read file Stvec = refl
m_may_read file Sscratch = refl
m_may_read file Sepc = refl
m_may_read file Scause = refl
m_may_read file Stval = refl
m_may_read file Satp = refl
m_may_read file Mstatus = refl
m_may_read file Medeleg = refl
m_may_read file Mideleg = refl
m_may_read file Mie = refl
m_may_read file Mtvec = refl
m_may_read file Mscratch = refl
m_may_read file Mepc = refl
m_may_read file Mcause = refl
m_may_read file Mtval = refl
m_may_read file Pmpcfg0 = refl
m_may_read file Pmpaddr0 = refl
m_may_read file Mhartid = refl

m_may_write : (file : CsrFile) (csr : Csr) → is_read_only csr ≡ false → may_write file csr M ≡ true
m_may_write file csr open_to = ap (λ t. t && not (is_read_only csr)) (m_may_read file csr) ∙ ap not open_to

-- the CSR is written
abbrev pub wrote_csr : Hart → Csr → ℕ → Hart
wrote_csr hart csr v = record hart { pc = behind hart.pc; csrs = written hart.csrs csr v }

pub wrote_csr_at : (h pc : ℕ) (csrs : CsrFile) (hart : Hart) (csr : Csr) (v : ℕ) → pc + 4 < 2 ^ 64 → At h pc csrs hart → At h (pc + 4) (written csrs csr v) (wrote_csr hart csr v)
wrote_csr_at h pc csrs hart csr v small at = record {
  number = at.number;
  pc_is = ap behind at.pc_is ∙ behind_is pc small;
  mode = at.mode;
  csrs_are = ap (λ file. written file csr v) at.csrs_are;
  reserved = at.reserved;
  zero_is = at.zero_is;
  complete = record { told = at.complete.told };
}

pub swaps : (seen : Seen) (h pc : ℕ) (csrs : CsrFile) (hart : Hart) (csr : Csr) (v : ℕ) → At h pc csrs hart → Stands seen pc (swap_csr 0 csr 30)
    → is_read_only csr ≡ false → hart.x 30 ≡ Some v → Takes seen h hart (spelled (swap_csr 0 csr 30)) (wrote_csr hart csr v)
swaps seen h pc csrs hart csr v at stands open_to x30 =
    let d : Decoded = swap_csr 0 csr 30 in
    let may : may_write hart.csrs csr hart.mode ≡ true = ap (may_write hart.csrs csr) at.mode ∙ m_may_write hart.csrs csr open_to in
    retires_to seen h pc csrs hart d v 0 done at stands x30 at.zero_is
    (ap (λ found. Some (csr_changed hart Swap d.ops v (spelled d) found)) (named csr)
    ∙ ap (λ t. Some (cond t (csrs_done hart (reading hart.csrs csr) (written hart.csrs csr v)) (illegal (spelled d)))) may) refl
  where
    done : Done
    done = record {
      value = Some (reading hart.csrs csr);
      next = behind hart.pc;
      mode = hart.mode;
      csrs = written hart.csrs csr v;
      reserved = hart.reserved;
      access = None;
      trail = [];
    }

-- mret goes on where mepc says, in the mode in MPP
abbrev pub left : Hart → Hart
left hart = record hart { pc = hart.csrs.mepc; mode = mret_mode hart.csrs; csrs = mret_done hart.csrs }

pub leaves : (seen : Seen) (h pc : ℕ) (csrs : CsrFile) (hart : Hart) → At h pc csrs hart → Stands seen pc mret → Takes seen h hart (spelled mret) (left hart)
leaves seen h pc csrs hart at stands =
    retires_to seen h pc csrs hart mret 0 0 done at stands at.zero_is at.zero_is
    (ap (λ mode. Some (returned_from_m hart (spelled mret) mode)) at.mode) refl
  where
    done : Done
    done = record {
      value = None;
      next = hart.csrs.mepc;
      mode = mret_mode hart.csrs;
      csrs = mret_done hart.csrs;
      reserved = hart.reserved;
      access = None;
      trail = [];
    }

-- ---- runs

pub then_runs : (seen : Seen) (h word : ℕ) (words : List ℕ) (hart next end : Hart) → Takes seen h hart word next → Executes seen h next words end
    → Executes seen h hart (word ∷ words) end
then_runs seen h word words hart next end takes runs = (takes.s, takes.steps, takes.quiet, subst (λ q. Executes seen h q words end) (sym takes.leads) runs)

pub runs_on : (seen : Seen) (h : ℕ) (words others : List ℕ) (hart middle end : Hart) → Executes seen h hart words middle → Executes seen h middle others end
    → Executes seen h hart (words ++ others) end
runs_on seen h [] others hart middle end first second = subst (λ q. Executes seen h q others end) first second
runs_on seen h (word ∷ words) others hart middle end first second =
    (first.0, first.1, first.2, runs_on seen h words others first.0.hart middle end first.3 second)
