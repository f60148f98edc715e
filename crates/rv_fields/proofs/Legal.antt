-- What CSRs hold is legal, at reset and after each change.
use Rattle.std.proofs.Common.{◌≡◌, ℕ, ◌+◌, ◌-◌, ◌*◌, ◌^◌, ◌<◌, ◌≤◌, min, max, Bool, true, false, eqb, List, [], ◌∷◌, drop, cond, eqb-true, refl, sym, subst, ◌∙◌, ap, arith, lit<, lit≤, ◌⊎◌, inl, inr}
use Rattle.std.specs.Prelude.{bit_and, ◌==◌, ◌||◌, if◌then◌else◌}
use Rattle.std.specs.Int.{bit_at}
use Rattle.std.proofs.lemmas.Bool.{cases_Bool}
use Rattle.std.proofs.lemmas.Nat.{and_le_r, and_mask, or_lt}
use Rattle.std.proofs.lemmas.Nat.Bits.{bit_at_and, bit_at_ones, bit_at-zero, same_from_bits}
use Rattle.rv_fields.specs.declared.csr.Csr.{Csr}
use Rattle.rv_fields.specs.declared.csr.Csr.TheVariants.{Sstatus, Stvec, Sscratch, Sepc, Scause, Stval, Satp, Mstatus, Medeleg, Mideleg, Mie, Mtvec, Mscratch, Mepc, Mcause, Mtval, Pmpcfg0, Pmpaddr0, Mhartid}
use Rattle.rv_fields.specs.declared.mode.Mode.{Mode}
use Rattle.rv_fields.specs.declared.mode.Mode.TheVariants.{U, S, M}
use Rattle.rv_fields.specs.Csr.{all_bits, all_csrs, csr_row, no_bits}
use Rattle.rv_fields.specs.CsrFile.{CsrFile, changed_bits, held, reset, source, with_held, written, written_each, zero_file}
use Rattle.rv_fields.specs.Field.{Field, field_mask, field_of, masked, with_field}
use Rattle.rv_fields.specs.Ranges.{MayHold, IsLegal, LegalAtReset, LegalOnceReturned, LegalOnceTrapped, LegalOnceWritten}
use Rattle.rv_fields.specs.Status.{mie, mode_number, mpp, mprv, satp_mode}
use Rattle.rv_fields.specs.Trap.{Stack, m_stack, mret_mode, mret_status, popped, pushed, s_stack, trap_mode, trapped_to}
use Rattle.rv_fields.proofs.Masks.{bit_at-masked, field_of-masked_inside, field_of-masked_outside}
use Rattle.rv_fields.proofs.Modes.{mret_status_mode, popped_s_mode, pushed_m_mode, pushed_s_mode, reset_mode, without_mprv_mode, written_mode}

-- ---- bits within a mask

-- the number has no bit outside the mask
abbrev pub Within : ℕ → ℕ → Type 0
Within n mask = bit_and n mask ≡ n

one_within : (n mask i : ℕ) → Within n mask → min (bit_at n i) (bit_at mask i) ≡ bit_at n i
one_within n mask i within = sym (bit_at_and n mask i) ∙ ap (λ k. bit_at k i) within

kept_within : (o n b c m : ℕ) → min o m ≡ o → min b m ≡ b → min (max (min o c) (min n b)) m ≡ max (min o c) (min n b)
kept_within o n b c m old bits = omega arith

masked_within : (mask bits old new : ℕ) → Within old mask → Within bits mask → Within (masked bits old new) mask
masked_within mask bits old new h k = same_from_bits _ _ (λ i.
    bit_at_and (masked bits old new) mask i
    ∙ ap (λ b. min b (bit_at mask i)) (bit_at-masked bits old new i)
    ∙ kept_within (bit_at old i) (bit_at new i) (bit_at bits i) (bit_at (2 ^ 64 - 1 - bits) i) (bit_at mask i) (one_within old mask i h) (one_within bits mask i k)
    ∙ sym (bit_at-masked bits old new i))

field_within : (mask : ℕ) (field : Field) (n value : ℕ) → Within n mask → Within (field_mask field) mask → Within (with_field field n value) mask
unfolding with_field
field_within mask field n value h k = masked_within mask (field_mask field) n (value * 2 ^ field.low) h k

pub within_below : (n mask : ℕ) → Within n mask → mask < 2 ^ 64 → n < 2 ^ 64
within_below n mask within small =
    let most : n ≤ mask = subst (λ (k : ℕ). k ≤ mask) within (and_le_r n mask) in
    omega arith

pub below_within : (n : ℕ) → n < 2 ^ 64 → Within n all_bits
below_within n small = and_mask n 64 ∙ omega arith

masked_below : (bits old new : ℕ) → bits < 2 ^ 64 → masked bits old new < 2 ^ 64
unfolding masked
masked_below bits old new small =
    or_lt 64 (bit_and old (2 ^ 64 - 1 - bits)) (bit_and new bits)
    (omega (arith, and_le_r old (2 ^ 64 - 1 - bits))) (omega (arith, and_le_r new bits))

-- ---- one register is changed

pub put_bits : (file : CsrFile) (csr : Csr) (value : ℕ) → MayHold csr value → ((other : Csr) → MayHold other (held file other))
    → (other : Csr) → MayHold other (held (with_held file csr value) other)
put_bits file Sstatus value new all Sstatus = new
put_bits file Sstatus value new all Mstatus = new
put_bits file Sstatus value new all other = all other
put_bits file Stvec value new all Stvec = new
put_bits file Stvec value new all other = all other
put_bits file Sscratch value new all Sscratch = new
put_bits file Sscratch value new all other = all other
put_bits file Sepc value new all Sepc = new
put_bits file Sepc value new all other = all other
put_bits file Scause value new all Scause = new
put_bits file Scause value new all other = all other
put_bits file Stval value new all Stval = new
put_bits file Stval value new all other = all other
put_bits file Satp value new all Satp = new
put_bits file Satp value new all other = all other
put_bits file Mstatus value new all Sstatus = new
put_bits file Mstatus value new all Mstatus = new
put_bits file Mstatus value new all other = all other
put_bits file Medeleg value new all Medeleg = new
put_bits file Medeleg value new all other = all other
put_bits file Mideleg value new all Mideleg = new
put_bits file Mideleg value new all other = all other
put_bits file Mie value new all Mie = new
put_bits file Mie value new all other = all other
put_bits file Mtvec value new all Mtvec = new
put_bits file Mtvec value new all other = all other
put_bits file Mscratch value new all Mscratch = new
put_bits file Mscratch value new all other = all other
put_bits file Mepc value new all Mepc = new
put_bits file Mepc value new all other = all other
put_bits file Mcause value new all Mcause = new
put_bits file Mcause value new all other = all other
put_bits file Mtval value new all Mtval = new
put_bits file Mtval value new all other = all other
put_bits file Pmpcfg0 value new all Pmpcfg0 = new
put_bits file Pmpcfg0 value new all other = all other
put_bits file Pmpaddr0 value new all Pmpaddr0 = new
put_bits file Pmpaddr0 value new all other = all other
put_bits file Mhartid value new all Mhartid = new
put_bits file Mhartid value new all other = all other

-- ---- a write

-- a write changes no bit but those of the register's row
within_if : (test : Bool) (a b mask : ℕ) → Within a mask → Within b mask → Within (if test then a else b) mask
within_if true a b mask h k = h
within_if false a b mask h k = k

changed_within : (csr : Csr) (value : ℕ) → Within (changed_bits csr value) (csr_row (source csr)).writable
unfolding with_field masked
changed_within Mstatus value =
    within_if (field_of mpp value == 2) (with_field mpp (csr_row Mstatus).writable 0) (csr_row Mstatus).writable (csr_row Mstatus).writable refl refl
changed_within Satp value =
    within_if (field_of satp_mode value == 0 || field_of satp_mode value == 8) (csr_row Satp).writable no_bits (csr_row Satp).writable refl refl
changed_within csr value = refl

write_may_hold : (file : CsrFile) (csr : Csr) (value : ℕ) → MayHold csr (held file csr) → MayHold csr (masked (changed_bits csr value) (held file csr) value)
write_may_hold file Mhartid value h = masked_below no_bits file.mhartid value (lit< tt)
write_may_hold file csr value h = masked_within (csr_row (source csr)).writable (changed_bits csr value) (held file csr) value h (changed_within csr value)

-- satp names no translation or Sv39
abbrev Names : ℕ → Type 0
Names satp = (field_of satp_mode satp ≡ 0) ⊎ (field_of satp_mode satp ≡ 8)

names_same : (old new : ℕ) → field_of satp_mode new ≡ field_of satp_mode old → Names old → Names new
names_same old new same names = subst (λ (f : ℕ). (f ≡ 0) ⊎ (f ≡ 8)) (sym same) names

either_number : (n : ℕ) → (eqb n 0 || eqb n 8) ≡ true → (n ≡ 0) ⊎ (n ≡ 8)
either_number n e =
    elim (cases_Bool (eqb n 0)) [
      | inl zero_is ↦ inl (eqb-true n 0 zero_is)
      | inr other ↦ inr (eqb-true n 8 (let left : (eqb n 0 || eqb n 8) ≡ eqb n 8 = rw other refl in sym left ∙ e))
    ]

satp_written : (old value : ℕ) → Names old → Names (masked (changed_bits Satp value) old value)
satp_written old value names = by (eqb (field_of satp_mode value) 0 || eqb (field_of satp_mode value) 8) refl
  where
    by : (t : Bool) → t ≡ (eqb (field_of satp_mode value) 0 || eqb (field_of satp_mode value) 8) → Names (masked (cond t all_bits no_bits) old value)
    by true e =
        names_same value (masked all_bits old value)
        (field_of-masked_inside satp_mode all_bits old value (lit≤ tt) (lit< tt) (λ i below. bit_at_ones 64 (60 + i) (omega arith)))
        (either_number (field_of satp_mode value) (sym e))
    by false e =
        names_same old (masked no_bits old value)
        (field_of-masked_outside satp_mode no_bits old value (lit≤ tt) (lit< tt) (λ i below. bit_at-zero (60 + i))) names

written_names : (file : CsrFile) (csr : Csr) (value : ℕ) → Names file.satp → Names (with_held file csr (masked (changed_bits csr value) (held file csr) value)).satp
written_names file Satp value names = satp_written file.satp value names
written_names file csr value names = names

pub legal_written : LegalOnceWritten
unfolding written
legal_written file csr value legal = record {
  bits = put_bits file csr (masked (changed_bits csr value) (held file csr) value) (write_may_hold file csr value (legal.bits csr)) legal.bits;
  mode = written_mode file csr value legal.mode;
  translation = written_names file csr value legal.translation;
}

-- ---- reset

each_legal : (file : CsrFile) (csrs : List Csr) (values : List ℕ) → IsLegal file → IsLegal (written_each file csrs values)
each_legal file [] values legal = legal
each_legal file (csr ∷ csrs) [] legal = legal
each_legal file (csr ∷ csrs) (value ∷ values) legal = each_legal (written file csr value) csrs values (legal_written file csr value legal)

zero_bits : (csr : Csr) → MayHold csr (held zero_file csr)
zero_bits Mhartid = lit< tt
zero_bits csr = refl

zero_legal : IsLegal zero_file
unfolding field_of
zero_legal = record { bits = zero_bits; mode = λ two. absurd cc; translation = inl refl }

pub legal_at_reset : LegalAtReset
unfolding reset
legal_at_reset hart raw small =
    let file = written_each zero_file (drop 1 all_csrs) (drop 1 raw) in
    let legal = each_legal zero_file (drop 1 all_csrs) (drop 1 raw) zero_legal in
    let status = with_field mprv (with_field mie file.mstatus 0) 0 in
    let within = field_within (csr_row Mstatus).writable mprv (with_field mie file.mstatus 0) 0
    (field_within (csr_row Mstatus).writable mie file.mstatus 0 (legal.bits Mstatus) refl) refl in
    record {
      bits = put_bits (with_held file Mhartid hart) Mstatus status within (put_bits file Mhartid hart small legal.bits);
      mode = reset_mode hart raw;
      translation = legal.translation;
    }

-- ---- traps, and the returns from them

-- the fields that a trap to a mode and a return from it change lie in mstatus
record LiesIn (stack : Stack) (mask : ℕ) : Type 0 where
  enable : Within (field_mask stack.enable) mask
  enable_before : Within (field_mask stack.enable_before) mask
  mode_before : Within (field_mask stack.mode_before) mask

pushed_within : (stack : Stack) (mask status : ℕ) (mode : Mode) → LiesIn stack mask → Within status mask → Within (pushed stack status mode) mask
unfolding pushed
pushed_within stack mask status mode lies within =
    let kept = with_field stack.enable_before status (field_of stack.enable status) in
    field_within mask stack.mode_before (with_field stack.enable kept 0) (mode_number mode)
    (field_within mask stack.enable kept 0
    (field_within mask stack.enable_before status (field_of stack.enable status) within lies.enable_before) lies.enable) lies.mode_before

popped_within : (stack : Stack) (mask status : ℕ) → LiesIn stack mask → Within status mask → Within (popped stack status) mask
unfolding popped
popped_within stack mask status lies within =
    let back = with_field stack.enable status (field_of stack.enable_before status) in
    field_within mask stack.mode_before (with_field stack.enable_before back 1) (mode_number U)
    (field_within mask stack.enable_before back 1
    (field_within mask stack.enable status (field_of stack.enable_before status) within lies.enable) lies.enable_before) lies.mode_before

m_lies : LiesIn m_stack (csr_row Mstatus).writable
m_lies = record { enable = refl; enable_before = refl; mode_before = refl }

s_lies : LiesIn s_stack (csr_row Mstatus).writable
s_lies = record { enable = refl; enable_before = refl; mode_before = refl }

to_m_legal : (file : CsrFile) (mode : Mode) (cause epc tval : ℕ) → cause < 2 ^ 64 → tval < 2 ^ 64 → IsLegal file → IsLegal (trapped_to M file mode cause epc tval)
to_m_legal file mode cause epc tval cause_small tval_small legal =
    let pc = masked (csr_row Mepc).writable file.mepc epc in
    let first = with_held file Mepc pc in
    let second = with_held first Mcause cause in
    let third = with_held second Mtval tval in
    record {
      bits = put_bits third Mstatus (pushed m_stack file.mstatus mode) (pushed_within m_stack (csr_row Mstatus).writable file.mstatus mode m_lies (legal.bits Mstatus))
          (put_bits second Mtval tval (below_within tval tval_small)
          (put_bits first Mcause cause (below_within cause cause_small)
          (put_bits file Mepc pc (masked_within (csr_row Mepc).writable (csr_row Mepc).writable file.mepc epc (legal.bits Mepc) refl) legal.bits)));
      mode = pushed_m_mode file.mstatus mode;
      translation = legal.translation;
    }

pub trapped_to_legal : (to : Mode) (file : CsrFile) (mode : Mode) (cause epc tval : ℕ) → cause < 2 ^ 64 → tval < 2 ^ 64 → IsLegal file
    → IsLegal (trapped_to to file mode cause epc tval)
trapped_to_legal S file mode cause epc tval cause_small tval_small legal =
    let pc = masked (csr_row Sepc).writable file.sepc epc in
    let first = with_held file Sepc pc in
    let second = with_held first Scause cause in
    let third = with_held second Stval tval in
    record {
      bits = put_bits third Mstatus (pushed s_stack file.mstatus mode) (pushed_within s_stack (csr_row Mstatus).writable file.mstatus mode s_lies (legal.bits Mstatus))
          (put_bits second Stval tval (below_within tval tval_small)
          (put_bits first Scause cause (below_within cause cause_small)
          (put_bits file Sepc pc (masked_within (csr_row Sepc).writable (csr_row Sepc).writable file.sepc epc (legal.bits Sepc) refl) legal.bits)));
      mode = pushed_s_mode file.mstatus mode legal.mode;
      translation = legal.translation;
    }
trapped_to_legal M file mode cause epc tval cause_small tval_small legal = to_m_legal file mode cause epc tval cause_small tval_small legal
trapped_to_legal U file mode cause epc tval cause_small tval_small legal = to_m_legal file mode cause epc tval cause_small tval_small legal

pub legal_trapped : LegalOnceTrapped
legal_trapped file mode cause epc tval cause_small tval_small legal =
    trapped_to_legal (trap_mode file mode cause) file mode cause epc tval cause_small tval_small legal

mret_status_within : (mode : Mode) (status : ℕ) → Within status (csr_row Mstatus).writable → Within (mret_status mode status) (csr_row Mstatus).writable
mret_status_within M status within = popped_within m_stack (csr_row Mstatus).writable status m_lies within
mret_status_within S status within =
    field_within (csr_row Mstatus).writable mprv (popped m_stack status) 0 (popped_within m_stack (csr_row Mstatus).writable status m_lies within) refl
mret_status_within U status within =
    field_within (csr_row Mstatus).writable mprv (popped m_stack status) 0 (popped_within m_stack (csr_row Mstatus).writable status m_lies within) refl

pub legal_returned : LegalOnceReturned
legal_returned file legal =
    let popped_in = popped_within s_stack (csr_row Mstatus).writable file.mstatus s_lies (legal.bits Mstatus) in (
      record {
        bits = put_bits file Mstatus (mret_status (mret_mode file) file.mstatus) (mret_status_within (mret_mode file) file.mstatus (legal.bits Mstatus)) legal.bits;
        mode = mret_status_mode (mret_mode file) file.mstatus;
        translation = legal.translation;
      },
      record {
        bits = put_bits file Mstatus (with_field mprv (popped s_stack file.mstatus) 0)
            (field_within (csr_row Mstatus).writable mprv (popped s_stack file.mstatus) 0 popped_in refl) legal.bits;
        mode = without_mprv_mode (popped s_stack file.mstatus) (popped_s_mode file.mstatus legal.mode);
        translation = legal.translation;
      },
    )
