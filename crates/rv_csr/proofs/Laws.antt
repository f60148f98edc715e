-- What a write leaves: the bits that it changes, and every other register.
use Rattle.std.proofs.Common.{◌≡◌, ℕ, ◌-◌, ◌^◌, ◌<◌, min, max, Bool, true, false, refl, sym, ◌∙◌, ap, arith, lit<, ◌⊎◌, inl, inr}
use Rattle.std.specs.Prelude.{bit_and, bit_or, ◌≢◌, ◌==◌, ◌||◌, if◌then◌else◌}
use Rattle.std.specs.Int.{bit_at, w64}
use Rattle.std.proofs.lemmas.Bool.{cases_lt}
use Rattle.std.proofs.lemmas.Nat.Bits.{bit_at_or, bit_at_and, bit_at_not, bit_at-lt, bit_at-zero, bit_at_above, same_from_bits}
use Rattle.rv_fields.specs.declared.csr.Csr.{Csr}
use Rattle.rv_fields.specs.declared.csr.Csr.TheVariants.{Sstatus, Satp, Mstatus}
use Rattle.rv_fields.specs.Csr.{csr_row, no_bits}
use Rattle.rv_fields.specs.Field.{masked, field_of, with_field}
use Rattle.rv_fields.specs.Status.{mpp, satp_mode}
use Rattle.rv_fields.specs.CsrFile.{CsrFile, source, held, with_held, shown, reading, changed_bits, written}
use Rattle.rv_fields.proofs.Masks.{masked-masked, bit_at-masked}

-- what is held is what was put there
held-with_held : (file : CsrFile) (csr : Csr) (value : ℕ) → held (with_held file csr value) csr ≡ value
held-with_held file csr value = elim csr as (λ c. held (with_held file c value) c ≡ value) [ Sstatus ↦ refl | _ ↦ refl ]

with_held-with_held : (file : CsrFile) (csr : Csr) (first value : ℕ) → with_held (with_held file csr first) csr value ≡ with_held file csr value
with_held-with_held file csr first value =
    elim csr as (λ c. with_held (with_held file c first) c value ≡ with_held file c value) [ Sstatus ↦ refl | _ ↦ refl ]

-- writing a value again changes nothing
pub written-written : (file : CsrFile) (csr : Csr) (value : ℕ) → written (written file csr value) csr value ≡ written file csr value
unfolding written
written-written file csr value =
    let bits = changed_bits csr value in
    let once = masked bits (held file csr) value in
    ap (λ h. with_held (with_held file csr once) csr (masked bits h value)) (held-with_held file csr once)
    ∙ with_held-with_held file csr once (masked bits once value)
    ∙ ap (with_held file csr) (masked-masked bits (held file csr) value)

-- what is held elsewhere stays
held_elsewhere : (file : CsrFile) (csr other : Csr) (value : ℕ) → source other ≢ source csr → held (with_held file csr value) other ≡ held file other
held_elsewhere file csr other value =
    elim csr as (λ c. source other ≢ source c → held (with_held file c value) other ≡ held file other) [
      | Sstatus ↦ elim other as (λ o. source o ≢ Mstatus → held (with_held file Sstatus value) o ≡ held file o) [
        | Sstatus ↦ λ apart. absurd (apart refl)
        | o ↦ λ (apart : source o ≢ Mstatus). first_of (cc, grind (arith, apart))
      ]
      | c ↦ elim other as (λ o. source o ≢ source c → held (with_held file c value) o ≡ held file o) [
        | Sstatus ↦ λ (apart : Mstatus ≢ source c). first_of (cc, grind (arith, apart))
        | o ↦ λ (apart : source o ≢ source c). first_of (cc, grind (arith, apart))
      ]
    ]

pub reading-written_other : (file : CsrFile) (csr other : Csr) (value : ℕ) → source other ≢ source csr → reading (written file csr value) other ≡ reading file other
unfolding written
reading-written_other file csr other value apart =
    ap (λ h. bit_or (shown other h) (csr_row other).constant)
    (held_elsewhere file csr other (masked (changed_bits csr value) (held file csr) value) apart)

-- where two numbers have no bit in common, a bit is in one of them at most
apart_at : (k m i : ℕ) → k < 2 ^ 64 → m < 2 ^ 64 → bit_and k m ≡ 0
    → (bit_at k i ≡ 0) ⊎ ((bit_at m i ≡ 0) × (bit_at (2 ^ 64 - 1 - m) i ≡ 1))
apart_at k m i small mask_small apart =
    elim (cases_lt i 64) [
      | inl below ↦ elim (cases_lt (bit_at k i) 1) [
        | inl lacks ↦ inl (omega arith)
        | inr has ↦
            let both : min (bit_at k i) (bit_at m i) ≡ 0 = sym (bit_at_and k m i) ∙ ap (λ n. bit_at n i) apart ∙ bit_at-zero i in
            let lacks : bit_at m i ≡ 0 = omega arith in
            inr (lacks, bit_at_not w64 m i mask_small below ∙ ap (λ b. 1 - b) lacks)
      ]
      | inr above ↦ inl (bit_at_above k 64 i small above)
    ]

-- bits that always read as 1, and that a write doesn't change
kept_bit : (h v k m c : ℕ) → k < 2 → (k ≡ 0) ⊎ ((m ≡ 0) × (c ≡ 1))
    → max (max (min h c) (min v m)) k ≡ max (min (max h k) c) (min v m)
kept_bit h v k m c bit apart = elim apart [ inl lacks ↦ omega arith | inr beside ↦ omega arith ]

or-masked : (mask old new constant : ℕ) → mask < 2 ^ 64 → constant < 2 ^ 64 → bit_and constant mask ≡ 0
    → bit_or (masked mask old new) constant ≡ masked mask (bit_or old constant) new
or-masked mask old new constant mask_small small apart = same_from_bits _ _ (λ i.
    bit_at_or (masked mask old new) constant i
    ∙ ap (λ b. max b (bit_at constant i)) (bit_at-masked mask old new i)
    ∙ kept_bit (bit_at old i) (bit_at new i) (bit_at constant i) (bit_at mask i) (bit_at (2 ^ 64 - 1 - mask) i) (bit_at-lt constant i)
    (apart_at constant mask i small mask_small apart)
    ∙ ap (λ b. max (min b (bit_at (2 ^ 64 - 1 - mask) i)) (min (bit_at new i) (bit_at mask i))) (sym (bit_at_or old constant i))
    ∙ sym (bit_at-masked mask (bit_or old constant) new i))

-- the same, where only the mask's bits are shown
shown_bit : (h v k m c : ℕ) → h < 2 → v < 2 → k < 2 → m < 2 → (k ≡ 0) ⊎ ((m ≡ 0) × (c ≡ 1))
    → max (min (max (min h c) (min v m)) m) k ≡ max (min (max (min h m) k) c) (min v m)
shown_bit h v k m c h_bit v_bit k_bit m_bit apart = elim apart [ inl lacks ↦ omega arith | inr beside ↦ omega arith ]

or-shown : (mask old new constant : ℕ) → mask < 2 ^ 64 → constant < 2 ^ 64 → bit_and constant mask ≡ 0
    → bit_or (bit_and (masked mask old new) mask) constant ≡ masked mask (bit_or (bit_and old mask) constant) new
or-shown mask old new constant mask_small small apart = same_from_bits _ _ (λ i.
    bit_at_or (bit_and (masked mask old new) mask) constant i
    ∙ ap (λ b. max b (bit_at constant i)) (bit_at_and (masked mask old new) mask i)
    ∙ ap (λ b. max (min b (bit_at mask i)) (bit_at constant i)) (bit_at-masked mask old new i)
    ∙ shown_bit (bit_at old i) (bit_at new i) (bit_at constant i) (bit_at mask i) (bit_at (2 ^ 64 - 1 - mask) i)
    (bit_at-lt old i) (bit_at-lt new i) (bit_at-lt constant i) (bit_at-lt mask i) (apart_at constant mask i small mask_small apart)
    ∙ ap (λ b. max (min (max b (bit_at constant i)) (bit_at (2 ^ 64 - 1 - mask) i)) (min (bit_at new i) (bit_at mask i))) (sym (bit_at_and old mask i))
    ∙ ap (λ b. max (min b (bit_at (2 ^ 64 - 1 - mask) i)) (min (bit_at new i) (bit_at mask i))) (sym (bit_at_or (bit_and old mask) constant i))
    ∙ sym (bit_at-masked mask (bit_or (bit_and old mask) constant) new i))

-- a write changes no bit that always reads as 1
pub record Beside (constant mask : ℕ) : Type 0 where
  pub mask_small : mask < 2 ^ 64
  pub small : constant < 2 ^ 64
  pub apart : bit_and constant mask ≡ 0

either : (constant : ℕ) (test : Bool) (a b : ℕ) → Beside constant a → Beside constant b → Beside constant (if test then a else b)
either constant test a b if_a if_b = elim test as (λ t. Beside constant (if t then a else b)) [ true ↦ if_a | false ↦ if_b ]

constant_apart : (csr : Csr) (value : ℕ) → Beside (csr_row csr).constant (changed_bits csr value)
unfolding with_field masked
constant_apart csr value =
    elim csr as (λ c. Beside (csr_row c).constant (changed_bits c value)) [
      | Mstatus ↦ either (csr_row Mstatus).constant (field_of mpp value == 2) (with_field mpp (csr_row Mstatus).writable 0) (csr_row Mstatus).writable
          (record { mask_small = lit< tt; small = lit< tt; apart = refl }) (record { mask_small = lit< tt; small = lit< tt; apart = refl })
      | Satp ↦ either (csr_row Satp).constant (field_of satp_mode value == 0 || field_of satp_mode value == 8) (csr_row Satp).writable no_bits
          (record { mask_small = lit< tt; small = lit< tt; apart = refl }) (record { mask_small = lit< tt; small = lit< tt; apart = refl })
      | c ↦ record { mask_small = lit< tt; small = lit< tt; apart = refl }
    ]

shown-masked : (csr : Csr) (old new : ℕ)
    → bit_or (shown csr (masked (changed_bits csr new) old new)) (csr_row csr).constant
    ≡ masked (changed_bits csr new) (bit_or (shown csr old) (csr_row csr).constant) new
shown-masked csr old new =
    elim csr as (λ c. bit_or (shown c (masked (changed_bits c new) old new)) (csr_row c).constant
    ≡ masked (changed_bits c new) (bit_or (shown c old) (csr_row c).constant) new) [
      | Sstatus ↦
          let beside = constant_apart Sstatus new in
          or-shown (changed_bits Sstatus new) old new (csr_row Sstatus).constant beside.mask_small beside.small beside.apart
      | c ↦
          let beside = constant_apart c new in
          or-masked (changed_bits c new) old new (csr_row c).constant beside.mask_small beside.small beside.apart
    ]

-- what is read after a write is what was read before, with the bits that the write changes
pub reading-written : (file : CsrFile) (csr : Csr) (value : ℕ)
    → reading (written file csr value) csr ≡ masked (changed_bits csr value) (reading file csr) value
unfolding written
reading-written file csr value =
    ap (λ h. bit_or (shown csr h) (csr_row csr).constant) (held-with_held file csr (masked (changed_bits csr value) (held file csr) value))
    ∙ shown-masked csr (held file csr) value
