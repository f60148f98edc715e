-- The dispatcher leads each hart of a job to its boot block.
use Rattle.std.proofs.Common.{ℕ, ◌+◌, ◌*◌, ◌%◌, ◌/◌, ◌^◌, ◌<◌, ◌≤◌, ◌≡◌, true, cond, eq-eqb, List, [], Some, None, refl, ap, ◌∙◌, arith}
use Rattle.std.specs.Prelude.{drop, negsuc, not, nat_lt, pos, take, ◌+ℤ◌}
use Rattle.std.specs.Int.Bits.{or_zero_r}
use Rattle.std.proofs.lemmas.Bool.Decides.{nat_tests}
use Rattle.std.proofs.lemmas.Int.{ints}
use Rattle.rv_fields.specs.declared.csr.Csr.TheVariants.{Mhartid}
use Rattle.rv_fields.specs.declared.row_table.Form.TheVariants.{I}
use Rattle.rv_fields.specs.declared.row_table.Ins.TheVariants.{Add, Addi, Auipc, Bgeu, Jalr, Slli}
use Rattle.rv_fields.specs.CsrFile.{CsrFile, reading}
use Rattle.rv_fields.specs.Decode.{Decoded}
use Rattle.rv_fields.specs.Hart.{Hart}
use Rattle.rv_fields.specs.Immediate.{wrapped}
use Rattle.rv_fields.specs.Meaning.{computed, left_shift, sum}
use Rattle.rv_fields.specs.Memory.{Seen}
use Rattle.rv_fields.specs.Step.{Done, behind, branch, goes, jump, moved_by, traps}
use Rattle.rv_fields.specs.Play.{most_harts}
use Rattle.rv_fields.proofs.MeaningLaws.{addi_adds, doubleword_result}
use Rattle.rv_encode.specs.Fitting.{misfit}
use Rattle.boot_words.specs.Boot.{dispatcher, instruction, read_csr, spelled}
use Rattle.boot_words.specs.Booting.{Executes, HoldsEach, dispatcher_steps}
use Rattle.boot_words.specs.Layout.{boot_block_at, dispatcher_at}
use Rattle.boot_words.proofs.Running.{At, Stands, Takes, computes, retires_to, then_runs, wrote, wrote_at}

-- the hart's number is read
reads_number : (seen : Seen) (h pc : ℕ) (csrs : CsrFile) (hart : Hart) → At h pc csrs hart → Stands seen pc (read_csr 5 Mhartid) → csrs.mhartid ≡ h
    → Takes seen h hart (spelled (read_csr 5 Mhartid)) (wrote hart 4 h)
reads_number seen h pc csrs hart at stands is =
    let value : reading hart.csrs Mhartid ≡ h = or_zero_r hart.csrs.mhartid ∙ ap (λ (file : CsrFile). file.mhartid) at.csrs_are ∙ is in
    let taken = retires_to seen h pc csrs hart (read_csr 5 Mhartid) 0 0 done at stands at.zero_is at.zero_is (rw at.mode refl) refl in
    record { s = taken.s; steps = taken.steps; quiet = taken.quiet; leads = taken.leads ∙ ap (λ v. wrote hart 4 v) value }
  where
    done : Done
    done = record {
      value = Some (reading hart.csrs Mhartid);
      next = behind hart.pc;
      mode = hart.mode;
      csrs = hart.csrs;
      reserved = hart.reserved;
      access = None;
      trail = [];
    }

-- the hart goes on at the address, and writes nothing
abbrev moved : Hart → ℕ → Hart
moved hart pc = record hart { pc = pc }

moved_at : (h pc next to : ℕ) (csrs : CsrFile) (hart : Hart) → next ≡ to → At h pc csrs hart → At h to csrs (moved hart next)
moved_at h pc next to csrs hart is at = record {
  number = at.number;
  pc_is = is;
  mode = at.mode;
  csrs_are = at.csrs_are;
  reserved = at.reserved;
  zero_is = at.zero_is;
  complete = record { told = at.complete.told };
}

abbrev moves : Hart → ℕ → Done
moves hart to = record {
  value = None;
  next = to;
  mode = hart.mode;
  csrs = hart.csrs;
  reserved = hart.reserved;
  access = None;
  trail = [];
}

abbrev to_wait : Decoded
to_wait = instruction Bgeu 0 5 6 (pos 20)

passes_by : (seen : Seen) (h pc harts : ℕ) (csrs : CsrFile) (hart : Hart) → At h pc csrs hart → Stands seen pc to_wait
    → hart.x 5 ≡ Some h → hart.x 6 ≡ Some harts → h < harts → Takes seen h hart (spelled to_wait) (moved hart (behind hart.pc))
passes_by seen h pc harts csrs hart at stands x5 x6 below =
    let test : nat_lt h harts ≡ true = grind (arith, nat_tests) in
    retires_to seen h pc csrs hart to_wait h harts (moves hart (behind hart.pc)) at stands x5 x6
    (ap (λ t. Some (branch hart (not t) (moved_by to_wait.ops hart.pc))) test) refl

abbrev to_block : Decoded
to_block = instruction Jalr 0 6 0 (negsuc 15)

jumps : (seen : Seen) (h pc to : ℕ) (csrs : CsrFile) (hart : Hart) → At h pc csrs hart → Stands seen pc to_block
    → hart.x 6 ≡ Some (to + 16) → to % 4 ≡ 0 → to + 16 < 2 ^ 64 → Takes seen h hart (spelled to_block) (moved hart to)
jumps seen h pc to csrs hart at stands x6 aligned small =
    let back : pos (to + 16) +ℤ negsuc 15 ≡ pos to = omega (arith, ints) in
    let here : to % 2 ^ 64 / 2 * 2 ≡ to = omega (arith, small, aligned) in
    let target : moved_by to_block.ops (to + 16) / 2 * 2 ≡ to = ap (λ z. wrapped z / 2 * 2) back ∙ here in
    let taken = retires_to seen h pc csrs hart to_block (to + 16) 0 done at stands x6 at.zero_is
    (ap (λ t. Some (jump hart (Some (behind hart.pc)) t)) target
    ∙ ap (λ b. Some (cond b (goes hart (Some (behind hart.pc)) to) (traps 0 to))) (eq-eqb (to % 4) 0 aligned)) refl in
    record { s = taken.s; steps = taken.steps; quiet = taken.quiet; leads = taken.leads }
  where
    done : Done
    done = record (moves hart to) { value = Some (behind hart.pc) }

-- what is computed on the way
abbrev pub to_count : ℕ → Decoded
to_count harts = instruction Addi 6 0 0 (pos harts)

pub count_fits : (harts : ℕ) → harts < 2048 → misfit I (to_count harts).ops ≡ None
count_fits harts small =
    let test : nat_lt harts 2048 ≡ true = grind (arith, nat_tests) in
    rw test refl

counted : (harts pc : ℕ) → harts < 2048 → computed Addi (to_count harts).ops pc 0 0 ≡ harts
counted harts pc small = addi_adds (to_count harts).ops pc 0 0 (omega arith) ∙ omega (arith, small)

shifted : (h pc : ℕ) → h < most_harts → computed Slli (instruction Slli 5 5 0 (pos 12)).ops pc h 0 ≡ h * 0x1000
shifted h pc small = doubleword_result left_shift h 12 (omega arith) (omega arith) ∙ omega (arith, small)

based : (pc : ℕ) → pc + 0x1000 < 2 ^ 64 → computed Auipc (instruction Auipc 6 0 0 (pos 0x1000)).ops pc 0 0 ≡ pc + 0x1000
based pc small = doubleword_result sum pc 0x1000 (omega arith) (omega arith) ∙ omega (arith, small)

added : (pc a b : ℕ) → a + b < 2 ^ 64 → computed Add (instruction Add 6 6 5 (pos 0)).ops pc a b ≡ a + b
added pc a b small = doubleword_result sum a b (omega arith) (omega arith) ∙ omega (arith, small)

computes_to : (seen : Seen) (h word r v w : ℕ) (hart : Hart) → Takes seen h hart word (wrote hart r v) → v ≡ w → Takes seen h hart word (wrote hart r w)
computes_to seen h word r v w hart takes is = record { s = takes.s; steps = takes.steps; quiet = takes.quiet; leads = takes.leads ∙ ap (wrote hart r) is }

pub dispatched : (harts h : ℕ) (seen : Seen) (csrs : CsrFile) (hart : Hart) → h < harts → harts ≤ most_harts → csrs.mhartid ≡ h
    → HoldsEach seen.byte 4 dispatcher_at (dispatcher harts) → At h dispatcher_at csrs hart
    → (end : Hart) × Executes seen h hart (take dispatcher_steps (dispatcher harts)) end × At h (boot_block_at h) csrs end
dispatched harts h seen csrs hart member few number holds at0 =
    let few_harts : harts < 2048 = omega arith in
    let few_h : h < most_harts = omega arith in
    let step1 = reads_number seen h 0x80000000 csrs hart at0 (record { word = holds.0; fits = refl }) number in
    let h1 = wrote hart 4 h in
    let at1 = wrote_at h 0x80000000 csrs hart 4 h (omega arith) at0 in
    let step2 = computes_to seen h _ 5 _ harts h1 (computes seen h 0x80000004 csrs h1 (to_count harts) 5 0 0 at1
    (record { word = holds.1.0; fits = count_fits harts few_harts }) refl refl at1.zero_is at1.zero_is) (counted harts h1.pc few_harts) in
    let h2 = wrote h1 5 harts in
    let at2 = wrote_at h 0x80000004 csrs h1 5 harts (omega arith) at1 in
    let step3 = passes_by seen h 0x80000008 harts csrs h2 at2 (record { word = holds.1.1.0; fits = refl }) refl refl member in
    let h3 = moved h2 (behind h2.pc) in
    let at3 = moved_at h 0x80000008 (behind h2.pc) 0x8000000c csrs h2 (ap behind at2.pc_is) at2 in
    let step4 = computes_to seen h _ 4 _ (h * 0x1000) h3 (computes seen h 0x8000000c csrs h3 (instruction Slli 5 5 0 (pos 12)) 4 h 0 at3
    (record { word = holds.1.1.1.0; fits = refl }) refl refl refl at3.zero_is) (shifted h h3.pc few_h) in
    let h4 = wrote h3 4 (h * 0x1000) in
    let at4 = wrote_at h 0x8000000c csrs h3 4 (h * 0x1000) (omega arith) at3 in
    let step5 = computes_to seen h _ 5 _ 0x80001010 h4 (computes seen h 0x80000010 csrs h4 (instruction Auipc 6 0 0 (pos 0x1000)) 5 0 0 at4
    (record { word = holds.1.1.1.1.0; fits = refl }) refl refl at4.zero_is at4.zero_is)
    (based h4.pc (omega (arith, at4.pc_is)) ∙ ap (λ pc. pc + 0x1000) at4.pc_is) in
    let h5 = wrote h4 5 0x80001010 in
    let at5 = wrote_at h 0x80000010 csrs h4 5 0x80001010 (omega arith) at4 in
    let step6 = computes_to seen h _ 5 _ (0x80001010 + h * 0x1000) h5 (computes seen h 0x80000014 csrs h5 (instruction Add 6 6 5 (pos 0)) 5 0x80001010 (h * 0x1000) at5
    (record { word = holds.1.1.1.1.1.0; fits = refl }) refl refl refl refl) (added h5.pc 0x80001010 (h * 0x1000) (omega (arith, few_h))) in
    let h6 = wrote h5 5 (0x80001010 + h * 0x1000) in
    let at6 = wrote_at h 0x80000014 csrs h5 5 (0x80001010 + h * 0x1000) (omega arith) at5 in
    let to : 0x80001010 + h * 0x1000 ≡ boot_block_at h + 16 = omega arith in
    let step7 = jumps seen h 0x80000018 (boot_block_at h) csrs h6 at6 (record { word = holds.1.1.1.1.1.1.0; fits = refl }) (ap Some to) (omega arith) (omega (arith, few_h)) in
    let h7 = moved h6 (boot_block_at h) in
    let at7 = moved_at h 0x80000018 (boot_block_at h) (boot_block_at h) csrs h6 refl at6 in
    let run6 : Executes seen h h6 (drop 6 words) h7 = then_runs seen h _ [] h6 h7 h7 step7 refl in
    let run5 : Executes seen h h5 (drop 5 words) h7 = then_runs seen h _ (drop 6 words) h5 h6 h7 step6 run6 in
    let run4 : Executes seen h h4 (drop 4 words) h7 = then_runs seen h _ (drop 5 words) h4 h5 h7 step5 run5 in
    let run3 : Executes seen h h3 (drop 3 words) h7 = then_runs seen h _ (drop 4 words) h3 h4 h7 step4 run4 in
    let run2 : Executes seen h h2 (drop 2 words) h7 = then_runs seen h _ (drop 3 words) h2 h3 h7 step3 run3 in
    let run1 : Executes seen h h1 (drop 1 words) h7 = then_runs seen h _ (drop 2 words) h1 h2 h7 step2 run2 in
    (h7, then_runs seen h _ (drop 1 words) hart h1 h7 step1 run1, at7)
  where
    words : List ℕ
    words = take dispatcher_steps (dispatcher harts)
