-- What the six words of the handler of mode M make of the hart that steps them: it comes out behind the address in mepc.
use Rattle.std.proofs.Common.{ℕ, zero, suc, ◌+◌, ◌*◌, ◌/◌, ◌%◌, ◌^◌, ◌<◌, ◌≡◌, true, cond, [], Option, Some, None, refl, sym, ap, subst, ◌∙◌, arith, lit<, lit≤}
use Rattle.std.specs.Prelude.{bit_and, bit_or, pos}
use Rattle.std.specs.Int.Bits.{or_zero_l, or_zero_r}
use Rattle.std.proofs.lemmas.Nat.{and_mask}
use Rattle.std.proofs.lemmas.Nat.Bits.{and_high_mask}
use Rattle.std.proofs.lemmas.Option.{same_Some}
use Rattle.rv_fields.specs.declared.csr.Csr.{Csr}
use Rattle.rv_fields.specs.declared.csr.Csr.TheVariants.{Mepc, Mscratch}
use Rattle.rv_fields.specs.declared.class.CsrChange.TheVariants.{Set, Swap}
use Rattle.rv_fields.specs.declared.mode.Mode.{Mode}
use Rattle.rv_fields.specs.declared.mode.Mode.TheVariants.{M}
use Rattle.rv_fields.specs.declared.row_table.Ins.TheVariants.{Addi}
use Rattle.rv_fields.specs.Csr.{address_bits}
use Rattle.rv_fields.specs.CsrFile.{CsrFile, may_read, may_write, reading, written}
use Rattle.rv_fields.specs.Decode.{Decoded}
use Rattle.rv_fields.specs.Field.{field_of, masked, with_field}
use Rattle.rv_fields.specs.Hart.{Hart}
use Rattle.rv_fields.specs.Meaning.{computed}
use Rattle.rv_fields.specs.Status.{mie, mode_of, mpie, mpp}
use Rattle.rv_fields.specs.Step.{Done, Stepped, behind, csr_changed, csrs_done, illegal, retired, returned_from_m, stepped_by, trap_taken}
use Rattle.rv_fields.specs.Trap.{handler_of, m_stack, mret_done, mret_mode, pushed, trap_mode, trapped}
use Rattle.rv_fields.proofs.Masks.{field_of-with_field}
use Rattle.rv_fields.proofs.MeaningLaws.{addi_adds}
use Rattle.boot_words.specs.Boot.{instruction, mret, read_csr, spelled, swap_csr}
use Rattle.boot_words.specs.Layout.{m_handler_at}
use Rattle.boot_words.proofs.Running.{m_may_read, named}
use Rattle.hart_task.proofs.Bare.{bare_step}

-- ---- each word

abbrev done_with : Hart → ℕ → CsrFile → Done
done_with hart value csrs = record {
  value = Some value;
  next = behind hart.pc;
  mode = hart.mode;
  csrs = csrs;
  reserved = hart.reserved;
  access = None;
  trail = [];
}

-- the register gets what the CSR held, and that what the other register has
swapped : (hart : Hart) (rd : ℕ) (csr : Csr) (rs1 a b : ℕ) → hart.mode ≡ M → may_write hart.csrs csr M ≡ true
    → let d : Decoded = swap_csr rd csr rs1 in bare_step hart (spelled d) (Some d) a b ≡ retired hart hart.pc (spelled d) rd (done_with hart (reading hart.csrs csr) (written hart.csrs csr a))
swapped hart rd csr rs1 a b is_m may =
    let d : Decoded = swap_csr rd csr rs1 in
    ap (λ found. stepped_by hart hart.pc (spelled d) rd (csr_changed hart Swap d.ops a (spelled d) found)) (named csr)
    ∙ ap (λ t. stepped_by hart hart.pc (spelled d) rd (cond t (csrs_done hart (reading hart.csrs csr) (written hart.csrs csr a)) (illegal (spelled d)))) (ap (may_write hart.csrs csr) is_m ∙ may)

-- it gets what the CSR holds
was_read : (hart : Hart) (rd : ℕ) (csr : Csr) (a b : ℕ) → hart.mode ≡ M
    → let d : Decoded = read_csr rd csr in bare_step hart (spelled d) (Some d) a b ≡ retired hart hart.pc (spelled d) rd (done_with hart (reading hart.csrs csr) hart.csrs)
was_read hart rd csr a b is_m =
    let d : Decoded = read_csr rd csr in
    ap (λ found. stepped_by hart hart.pc (spelled d) rd (csr_changed hart Set d.ops a (spelled d) found)) (named csr)
    ∙ ap (λ t. stepped_by hart hart.pc (spelled d) rd (cond t (csrs_done hart (reading hart.csrs csr) hart.csrs) (illegal (spelled d)))) (ap (may_read hart.csrs csr) is_m ∙ m_may_read hart.csrs csr)

-- the hart goes on where mepc says, in the mode in MPP
abbrev gone_back : Hart → Done
gone_back hart = record {
  value = None;
  next = hart.csrs.mepc;
  mode = mret_mode hart.csrs;
  csrs = mret_done hart.csrs;
  reserved = hart.reserved;
  access = None;
  trail = [];
}

returned_so : (hart : Hart) (a b : ℕ) → hart.mode ≡ M → bare_step hart (spelled mret) (Some mret) a b ≡ retired hart hart.pc (spelled mret) 0 (gone_back hart)
returned_so hart a b is_m = ap (λ mode. stepped_by hart hart.pc (spelled mret) 0 (returned_from_m hart (spelled mret) mode)) is_m

-- ---- where the hart is between them

-- what mepc and x31 hold before each word, when the trap came at epc
abbrev pub Holds : ℕ → ℕ → Hart → Type 0
Holds zero epc hart = hart.csrs.mepc ≡ epc
Holds (suc zero) epc hart = hart.csrs.mepc ≡ epc
Holds (suc (suc zero)) epc hart = (hart.csrs.mepc ≡ epc) × (hart.x 31 ≡ Some epc)
Holds (suc (suc (suc zero))) epc hart = (hart.csrs.mepc ≡ epc) × (hart.x 31 ≡ Some (epc + 4))
Holds (suc (suc (suc (suc n)))) epc hart = hart.csrs.mepc ≡ epc + 4

pub record IsInHandler (next epc : ℕ) (hart : Hart) : Type 0 where
  pub mode : hart.mode ≡ M
  pub handler : hart.csrs.mtvec ≡ m_handler_at
  pub back : mret_mode hart.csrs ≡ M
  pub pc : hart.pc ≡ m_handler_at + 4 * next
  pub holds : Holds next epc hart

behind_so : (next : ℕ) (pc : ℕ) → next < 6 → pc ≡ m_handler_at + 4 * next → behind pc ≡ m_handler_at + 4 * (next + 1)
behind_so next pc few is = omega (arith, few, is)

-- x31 is put into mscratch
pub first_word : (hart : Hart) (epc a b : ℕ) → IsInHandler 0 epc hart → IsInHandler 1 epc (bare_step hart (spelled (swap_csr 31 Mscratch 31)) (Some (swap_csr 31 Mscratch 31)) a b).hart
unfolding written
first_word hart epc a b at =
    subst (λ (s : Stepped). IsInHandler 1 epc s.hart) (sym (swapped hart 31 Mscratch 31 a b at.mode refl))
    (record { mode = at.mode; handler = at.handler; back = at.back; pc = behind_so 0 hart.pc (lit< tt) at.pc; holds = at.holds })

-- mepc is read
pub second_word : (hart : Hart) (epc a b : ℕ) → IsInHandler 1 epc hart → IsInHandler 2 epc (bare_step hart (spelled (read_csr 31 Mepc)) (Some (read_csr 31 Mepc)) a b).hart
second_word hart epc a b at =
    subst (λ (s : Stepped). IsInHandler 2 epc s.hart) (sym (was_read hart 31 Mepc a b at.mode))
    (record { mode = at.mode; handler = at.handler; back = at.back; pc = behind_so 1 hart.pc (lit< tt) at.pc; holds = (at.holds, ap Some (or_zero_r hart.csrs.mepc ∙ at.holds)) })

-- an address of an instruction gets through the bits of mepc
address_kept : (old new : ℕ) → old % 4 ≡ 0 → new % 4 ≡ 0 → new < 2 ^ 64 → masked address_bits old new ≡ new
unfolding masked
address_kept old new old_aligned new_aligned small =
    let high : bit_and new address_bits ≡ new = (let whole : new / 4 * 4 ≡ new = omega (arith, new_aligned) in and_high_mask 64 2 (omega arith) new small ∙ whole) in
    let low : bit_and old 3 ≡ 0 = and_mask old 2 ∙ old_aligned in
    ap (λ b. bit_or b (bit_and new address_bits)) low ∙ ap (bit_or 0) high ∙ or_zero_l new

same_value : (m : Option ℕ) (a b : ℕ) → m ≡ Some a → m ≡ Some b → a ≡ b
same_value m a b is also = same_Some a b (sym is ∙ also)

-- 4 is added
pub third_word : (hart : Hart) (epc a b : ℕ) → hart.x 31 ≡ Some a → epc + 4 < 2 ^ 64 → IsInHandler 2 epc hart
    → IsInHandler 3 epc (bare_step hart (spelled (instruction Addi 31 31 0 (pos 4))) (Some (instruction Addi 31 31 0 (pos 4))) a b).hart
third_word hart epc a b x31 small at =
    let same : a ≡ epc = same_value (hart.x 31) a epc x31 at.holds.1 in
    let sum : computed Addi (instruction Addi 31 31 0 (pos 4)).ops hart.pc a b ≡ epc + 4 = (let n : (a + 4) % 2 ^ 64 ≡ epc + 4 = omega (arith, same, small) in addi_adds (instruction Addi 31 31 0 (pos 4)).ops hart.pc a b (omega arith) ∙ n) in
    record { mode = at.mode; handler = at.handler; back = at.back; pc = behind_so 2 hart.pc (lit< tt) at.pc; holds = (at.holds.0, ap Some sum) }

-- and the sum is put into mepc
pub fourth_word : (hart : Hart) (epc a b : ℕ) → hart.x 31 ≡ Some a → epc % 4 ≡ 0 → epc + 4 < 2 ^ 64 → IsInHandler 3 epc hart
    → IsInHandler 4 epc (bare_step hart (spelled (swap_csr 0 Mepc 31)) (Some (swap_csr 0 Mepc 31)) a b).hart
unfolding written
fourth_word hart epc a b x31 aligned small at =
    let same : a ≡ epc + 4 = same_value (hart.x 31) a (epc + 4) x31 at.holds.1 in
    let kept : masked address_bits hart.csrs.mepc a ≡ epc + 4 =
    ap (masked address_bits hart.csrs.mepc) same
    ∙ address_kept hart.csrs.mepc (epc + 4) (ap (λ n. n % 4) at.holds.0 ∙ aligned) (omega (arith, aligned)) small in
    subst (λ (s : Stepped). IsInHandler 4 epc s.hart) (sym (swapped hart 0 Mepc 31 a b at.mode refl))
    (record { mode = at.mode; handler = at.handler; back = at.back; pc = behind_so 3 hart.pc (lit< tt) at.pc; holds = kept })

-- x31 is taken back
pub fifth_word : (hart : Hart) (epc a b : ℕ) → IsInHandler 4 epc hart → IsInHandler 5 epc (bare_step hart (spelled (swap_csr 31 Mscratch 31)) (Some (swap_csr 31 Mscratch 31)) a b).hart
unfolding written
fifth_word hart epc a b at =
    subst (λ (s : Stepped). IsInHandler 5 epc s.hart) (sym (swapped hart 31 Mscratch 31 a b at.mode refl))
    (record { mode = at.mode; handler = at.handler; back = at.back; pc = behind_so 4 hart.pc (lit< tt) at.pc; holds = at.holds })

-- The hart comes out.
pub record ComesOut (epc : ℕ) (hart : Hart) : Type 0 where
  pub mode : hart.mode ≡ M
  pub handler : hart.csrs.mtvec ≡ m_handler_at
  pub pc : hart.pc ≡ epc + 4
  pub kept : hart.csrs.mepc ≡ epc + 4

pub sixth_word : (hart : Hart) (epc a b : ℕ) → IsInHandler 5 epc hart → ComesOut epc (bare_step hart (spelled mret) (Some mret) a b).hart
sixth_word hart epc a b at =
    subst (λ (s : Stepped). ComesOut epc s.hart) (sym (returned_so hart a b at.mode)) (record { mode = at.back; handler = at.handler; pc = at.holds; kept = at.holds })

-- ---- a trap in mode M leads there

-- a trap leaves mode M in MPP
trapped_back : (status : ℕ) → mode_of (field_of mpp (pushed m_stack status M)) ≡ M
unfolding pushed
trapped_back status =
    ap mode_of (field_of-with_field mpp (with_field mie (with_field mpie status (field_of mie status)) 0) 3 (lit≤ tt) (lit< tt))

pub traps_there : (hart : Hart) (pa word : Option ℕ) (cause tval : ℕ) → hart.mode ≡ M → hart.csrs.mtvec ≡ m_handler_at → hart.csrs.mepc % 4 ≡ 0 → hart.pc % 4 ≡ 0 → hart.pc < 2 ^ 64
    → IsInHandler 0 hart.pc (trap_taken hart pa word cause tval []).hart
unfolding trap_taken
traps_there hart pa word cause tval is_m handler old aligned small =
    subst (λ mode. IsInHandler 0 hart.pc (trapped_from mode)) (sym is_m)
    (record { mode = refl; handler = handler; back = trapped_back hart.csrs.mstatus; pc = handler; holds = address_kept hart.csrs.mepc hart.pc old aligned small })
  where
    trapped_from : Mode → Hart
    trapped_from mode = record hart {
      pc = handler_of hart.csrs (trap_mode hart.csrs mode cause);
      mode = trap_mode hart.csrs mode cause;
      csrs = trapped hart.csrs mode cause hart.pc tval;
    }
