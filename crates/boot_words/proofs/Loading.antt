-- The boot block loads the CSRs and the registers from its tables.
use Rattle.std.proofs.Common.{ℕ, zero, suc, ◌+◌, ◌-◌, ◌*◌, ◌%◌, ◌^◌, ◌<◌, ◌≤◌, ◌≡◌, ◌≢◌, true, false, cond, eqb, List, [], ◌∷◌, length, map, Some, None, refl, sym, ap, subst, ◌∙◌, arith, lit<, inl, inr}
use Rattle.std.specs.Prelude.{⊤, nat_lt}
use Rattle.std.specs.List.{enumerate_from, flat_map, range_with_len}
use Rattle.std.proofs.lemmas.Bool.{ne_eqb}
use Rattle.std.proofs.lemmas.Bool.Decides.{eqb_tells, nat_tests}
use Rattle.rv_fields.specs.declared.csr.Csr.{Csr}
use Rattle.rv_fields.specs.declared.csr.Csr.TheVariants.{Sstatus, Stvec, Sscratch, Sepc, Scause, Stval, Satp, Mstatus, Medeleg, Mideleg, Mie, Mtvec, Mscratch, Mepc, Mcause, Mtval, Pmpcfg0, Pmpaddr0, Mhartid}
use Rattle.rv_fields.specs.declared.row_table.Form.TheVariants.{C, I}
use Rattle.rv_fields.specs.CsrFile.{CsrFile, is_read_only, written, written_each}
use Rattle.rv_fields.specs.Field.{field_of}
use Rattle.rv_fields.specs.Hart.{Hart}
use Rattle.rv_fields.specs.Memory.{Seen, told}
use Rattle.rv_fields.specs.Status.{mprv}
use Rattle.rv_encode.specs.Fitting.{misfit}
use Rattle.boot_words.specs.Boot.{csr_code, register_code, spelled, swap_csr, table_load}
use Rattle.boot_words.specs.Booting.{Executes, HoldsEach}
use Rattle.boot_words.specs.Layout.{csrs_offset, registers_offset}
use Rattle.boot_words.proofs.Running.{At, loads, swaps, then_runs, wrote, wrote_at, wrote_csr, wrote_csr_at}

-- ---- operands that fit

load_fits : (rd offset : ℕ) → rd < 32 → offset < 2048 → misfit I (table_load rd offset).ops ≡ None
load_fits rd offset small near =
    let register : nat_lt rd 32 ≡ true = grind (arith, nat_tests) in
    let immediate : nat_lt offset 2048 ≡ true = grind (arith, nat_tests) in
    rw (register, immediate) refl

swap_fits : (csr : Csr) → misfit C (swap_csr 0 csr 30).ops ≡ None
swap_fits Sstatus = refl
swap_fits Stvec = refl
swap_fits Sscratch = refl
swap_fits Sepc = refl
swap_fits Scause = refl
swap_fits Stval = refl
swap_fits Satp = refl
swap_fits Mstatus = refl
swap_fits Medeleg = refl
swap_fits Mideleg = refl
swap_fits Mie = refl
swap_fits Mtvec = refl
swap_fits Mscratch = refl
swap_fits Mepc = refl
swap_fits Mcause = refl
swap_fits Mtval = refl
swap_fits Pmpcfg0 = refl
swap_fits Pmpaddr0 = refl
swap_fits Mhartid = refl

-- ---- the CSRs

-- the CSR can be written, and a write of the value leaves loads as they are
pub record Suits (csr : Csr) (value : ℕ) : Type 0 where
  pub open_to : is_read_only csr ≡ false
  pub small : value < 2 ^ 64
  pub leaves : (file : CsrFile) → field_of mprv file.mstatus ≡ 0 → field_of mprv (written file csr value).mstatus ≡ 0

abbrev pub AllSuit : (Csr → ℕ) → List Csr → Type 0
AllSuit values [] = ⊤
AllSuit values (csr ∷ csrs) = Suits csr (values csr) × AllSuit values csrs

abbrev pub csr_words : ℕ → List Csr → List ℕ
csr_words k csrs = map spelled (flat_map csr_code (enumerate_from k csrs))

-- Behind the loads of CSRs from a place on, the hart has them, and x31 has the block's address.
pub record HasCsrs (seen : Seen) (h pc base : ℕ) (file : CsrFile) (hart : Hart) (words : List ℕ) : Type 0 where
  pub end : Hart
  pub runs : Executes seen h hart words end
  pub at : At h pc file end
  pub based : end.x 31 ≡ Some base
  pub bare : field_of mprv file.mstatus ≡ 0

pub csrs_loaded : (seen : Seen) (h base : ℕ) (values : Csr → ℕ) (k pc : ℕ) (csrs : List Csr) (file : CsrFile) (hart : Hart)
    → base % 8 ≡ 0 → base < 2 ^ 32 → pc + 8 * length csrs < 2 ^ 32 → k + length csrs ≤ 15 → AllSuit values csrs
    → HoldsEach seen.byte 4 pc (csr_words k csrs) → HoldsEach seen.byte 8 (base + csrs_offset + 8 * k) (map values csrs)
    → At h pc file hart → hart.x 31 ≡ Some base → field_of mprv file.mstatus ≡ 0
    → HasCsrs seen h (pc + 8 * length csrs) base (written_each file csrs (map values csrs)) hart (csr_words k csrs)
csrs_loaded seen h base values k pc [] file hart aligned low near few suit code table at x31 bare = record {
  end = hart;
  runs = refl;
  at = subst (λ pc. At h pc file hart) (let same : pc ≡ pc + 8 * 0 = omega arith in same) at;
  based = x31;
  bare = bare;
}
csrs_loaded seen h base values k pc (csr ∷ csrs) file hart aligned low near few suit code table at x31 bare =
    let v = values csr in
    let offset = csrs_offset + 8 * k in
    let place : base + csrs_offset + 8 * k ≡ base + offset = omega arith in
    let first = loads seen h pc file hart 29 base offset v at (record { word = code.0; fits = load_fits 30 offset (lit< tt) (omega (arith, few)) }) bare x31
    (omega (arith, low, few)) (omega (arith, aligned)) (ap (λ a. told seen.byte a 8) (sym place) ∙ table.0) suit.0.small in
    let h1 = wrote hart 29 v in
    let at1 = wrote_at h pc file hart 29 v (omega (arith, near)) at in
    let second = swaps seen h (pc + 4) file h1 csr v at1 (record { word = code.1.0; fits = swap_fits csr }) suit.0.open_to refl in
    let h2 = wrote_csr h1 csr v in
    let two : pc + 4 + 4 ≡ pc + 8 = omega arith in
    let at2 : At h (pc + 8) (written file csr v) h2 = subst (λ pc. At h pc (written file csr v) h2) two (wrote_csr_at h (pc + 4) file h1 csr v (omega (arith, near)) at1) in
    let next : base + csrs_offset + 8 * k + 8 ≡ base + csrs_offset + 8 * (k + 1) = omega arith in
    let rest = csrs_loaded seen h base values (k + 1) (pc + 8) csrs (written file csr v) h2 aligned low (omega (arith, near)) (omega (arith, few)) suit.1
    (subst (λ pc. HoldsEach seen.byte 4 pc (csr_words (k + 1) csrs)) two code.1.1)
    (subst (λ a. HoldsEach seen.byte 8 a (map values csrs)) next table.1) at2 x31 (suit.0.leaves file bare) in
    record {
      end = rest.end;
      runs = then_runs seen h _ (spelled (swap_csr 0 csr 30) ∷ csr_words (k + 1) csrs) hart h1 rest.end first
          (then_runs seen h _ (csr_words (k + 1) csrs) h1 h2 rest.end second rest.runs);
      at = subst (λ pc. At h pc (written_each (written file csr v) csrs (map values csrs)) rest.end) (let same : pc + 8 + 8 * length csrs ≡ pc + 8 * suc (length csrs) = omega arith in same) rest.at;
      based = rest.based;
      bare = rest.bare;
    }

-- ---- x1 to x31

abbrev pub register_words : ℕ → ℕ → List ℕ
register_words r count = map spelled (map register_code (range_with_len r count))

-- Behind the loads of so many registers from one on, the hart has them, and those below as before.
pub record HasRegisters (seen : Seen) (h pc : ℕ) (file : CsrFile) (hart : Hart) (words : List ℕ) (x : ℕ → ℕ) (r count : ℕ) : Type 0 where
  pub end : Hart
  pub runs : Executes seen h hart words end
  pub at : At h pc file end
  pub has : (q : ℕ) → r ≤ q → q < r + count → end.x q ≡ Some (x q)
  pub keeps : (q : ℕ) → q < r → end.x q ≡ hart.x q

pub registers_loaded : (seen : Seen) (h base : ℕ) (x : ℕ → ℕ) (r count pc : ℕ) (file : CsrFile) (hart : Hart)
    → base % 8 ≡ 0 → base < 2 ^ 32 → pc + 4 * count < 2 ^ 32 → 1 ≤ r → r + count ≡ 32 → ((q : ℕ) → x q < 2 ^ 64)
    → HoldsEach seen.byte 4 pc (register_words r count) → HoldsEach seen.byte 8 (base + registers_offset + 8 * (r - 1)) (map x (range_with_len r count))
    → At h pc file hart → (r < 32 → hart.x 31 ≡ Some base) → field_of mprv file.mstatus ≡ 0
    → HasRegisters seen h (pc + 4 * count) file hart (register_words r count) x r count
registers_loaded seen h base x r zero pc file hart aligned low near some last small code table at x31 bare = record {
  end = hart;
  runs = refl;
  at = subst (λ pc. At h pc file hart) (let same : pc ≡ pc + 4 * 0 = omega arith in same) at;
  has = λ q from below. absurd (omega arith);
  keeps = λ q below. refl;
}
registers_loaded seen h base x zero (suc count) pc file hart aligned low near some last small code table at x31 bare = absurd (omega arith)
registers_loaded seen h base x (suc r) (suc count) pc file hart aligned low near some last small code table at x31 bare =
    let offset = registers_offset + 8 * (suc r - 1) in
    let place : base + registers_offset + 8 * (suc r - 1) ≡ base + offset = omega arith in
    let first = loads seen h pc file hart r base offset (x (suc r)) at (record { word = code.0; fits = load_fits (suc r) offset (omega (arith, last)) (omega (arith, last)) })
    bare (x31 (omega (arith, last))) (omega (arith, low, last)) (omega (arith, aligned)) (ap (λ a. told seen.byte a 8) (sym place) ∙ table.0) (small (suc r)) in
    let h1 = wrote hart r (x (suc r)) in
    let at1 = wrote_at h pc file hart r (x (suc r)) (omega (arith, near)) at in
    let next : base + registers_offset + 8 * (suc r - 1) + 8 ≡ base + registers_offset + 8 * (suc r + 1 - 1) = omega arith in
    let rest = registers_loaded seen h base x (suc r + 1) count (pc + 4) file h1 aligned low (omega (arith, near)) (omega arith) (omega (arith, last)) small
    code.1 (subst (λ a. HoldsEach seen.byte 8 a (map x (range_with_len (suc r + 1) count))) next table.1) at1 (kept31) bare in
    record {
      end = rest.end;
      runs = then_runs seen h _ (register_words (suc r + 1) count) hart h1 rest.end first rest.runs;
      at = subst (λ pc. At h pc file rest.end) (let same : pc + 4 + 4 * count ≡ pc + 4 * suc count = omega arith in same) rest.at;
      has = λ q from below. elim (eqb_tells q (suc r)) [
        | inl same ↦ rest.keeps q (let is : q ≡ suc r = same.1 in omega (arith, is)) ∙ ap (λ t. cond t (Some (x (suc r))) (hart.x q)) same.0 ∙ ap (λ q. Some (x q)) (sym same.1)
        | inr other ↦ rest.has q (let apart : q ≢ suc r = other.1 in omega arith) (omega (arith, below))
      ];
      keeps = λ q below. rest.keeps q (omega (arith, below)) ∙ ap (λ t. cond t (Some (x (suc r))) (hart.x q)) (ne_eqb q (suc r) (let apart : q ≢ suc r = omega (arith, below) in apart));
    }
  where
    kept31 : suc r + 1 < 32 → cond (eqb 31 (suc r)) (Some (x (suc r))) (hart.x 31) ≡ Some base
    kept31 below = ap (λ t. cond t (Some (x (suc r))) (hart.x 31)) (ne_eqb 31 (suc r) (let apart : 31 ≢ suc r = omega (arith, below) in apart)) ∙ x31 (omega (arith, below))
