-- MPP always has the number of a mode.
use Rattle.std.proofs.Common.{◌≡◌, ℕ, zero, suc, ◌+◌, ◌<◌, ◌≤◌, List, [], ◌∷◌, drop, true, false, eqb, refl, sym, ◌∙◌, arith, lit<, lit≤, inl, inr, subst, eq-eqb}
use Rattle.std.specs.Int.{bit_at}
use Rattle.std.proofs.lemmas.Bool.{cases_Bool, both_ways}
use Rattle.rv_fields.specs.declared.csr.Csr.{Csr}
use Rattle.rv_fields.specs.declared.csr.Csr.TheVariants.{Sstatus, Mstatus}
use Rattle.rv_fields.specs.declared.mode.Mode.{Mode}
use Rattle.rv_fields.specs.declared.mode.Mode.TheVariants.{U, S, M}
use Rattle.rv_fields.specs.Csr.{all_csrs}
use Rattle.rv_fields.specs.Field.{Field, masked, field_of, with_field, AreApart}
use Rattle.rv_fields.specs.Status.{sie, mie, spie, mpie, spp, mpp, mprv, HasMode, mode_number}
use Rattle.rv_fields.specs.CsrFile.{CsrFile, held, with_held, changed_bits, written, zero_file, written_each, reset}
use Rattle.rv_fields.specs.Trap.{m_stack, s_stack, pushed, popped, mret_status}
use Rattle.rv_fields.proofs.Masks.{field_of-with_field, field_of-with_field_other, field_of-masked_inside, field_of-masked_outside}

numbers : (n : ℕ) → n ≡ 2 → eqb n 2 ≡ false → ⊥
numbers n two other = both_ways (eqb n 2) other (eq-eqb n 2 two)

-- the same MPP
kept : (old new : ℕ) → field_of mpp new ≡ field_of mpp old → HasMode old → HasMode new
kept old new same has two = has (sym same ∙ two)

-- a field beside MPP leaves it
beside : (field : Field) (status value : ℕ) → field.low + field.width ≤ 64 → AreApart field mpp → HasMode status → HasMode (with_field field status value)
beside field status value within apart = kept status (with_field field status value) (field_of-with_field_other field mpp status value within (lit≤ tt) apart)

-- MPP is within the bits that a write to mstatus changes, but for a value with 2 there, and beside those of sstatus
leaves_mpp : (value : ℕ) → eqb (field_of mpp value) 2 ≡ true → changed_bits Mstatus value ≡ 0x7e01aa
unfolding with_field masked
leaves_mpp value two = rw two refl

takes_mpp : (value : ℕ) → eqb (field_of mpp value) 2 ≡ false → changed_bits Mstatus value ≡ 0x7e19aa
takes_mpp value other = rw other refl

left_alone : (i : ℕ) → i < 2 → bit_at 0x7e01aa (11 + i) ≡ 0
left_alone zero below = refl
left_alone (suc zero) below = refl
left_alone (suc (suc i)) below = absurd (omega arith)

taken : (i : ℕ) → i < 2 → bit_at 0x7e19aa (11 + i) ≡ 1
taken zero below = refl
taken (suc zero) below = refl
taken (suc (suc i)) below = absurd (omega arith)

hidden : (i : ℕ) → i < 2 → bit_at 0xc0122 (11 + i) ≡ 0
hidden zero below = refl
hidden (suc zero) below = refl
hidden (suc (suc i)) below = absurd (omega arith)

to_mstatus : (old value : ℕ) → HasMode old → HasMode (masked (changed_bits Mstatus value) old value)
to_mstatus old value has =
    elim (cases_Bool (eqb (field_of mpp value) 2)) [
      | inl two ↦
          let same = field_of-masked_outside mpp 0x7e01aa old value (lit≤ tt) (lit< tt) left_alone in
          subst (λ (mask : ℕ). HasMode (masked mask old value)) (sym (leaves_mpp value two)) (kept old (masked 0x7e01aa old value) same has)
      | inr other ↦
          let same = field_of-masked_inside mpp 0x7e19aa old value (lit≤ tt) (lit< tt) taken in
          let not_two : HasMode value = λ two. absurd (both_ways (eqb (field_of mpp value) 2) other (eq-eqb (field_of mpp value) 2 two)) in
          subst (λ (mask : ℕ). HasMode (masked mask old value)) (sym (takes_mpp value other)) (kept value (masked 0x7e19aa old value) same not_two)
    ]

-- a write
pub written_mode : (file : CsrFile) (csr : Csr) (value : ℕ) → HasMode file.mstatus → HasMode (written file csr value).mstatus
unfolding written
written_mode file csr value =
    elim csr as (λ c. HasMode file.mstatus → HasMode (with_held file c (masked (changed_bits c value) (held file c) value)).mstatus) [
      | Mstatus ↦ to_mstatus file.mstatus value
      | Sstatus ↦
          kept file.mstatus (masked 0xc0122 file.mstatus value) (field_of-masked_outside mpp 0xc0122 file.mstatus value (lit≤ tt) (lit< tt) hidden)
      | c ↦ λ has. has
    ]

written_each_mode : (file : CsrFile) (csrs : List Csr) (values : List ℕ) → HasMode file.mstatus → HasMode (written_each file csrs values).mstatus
written_each_mode file [] values has = has
written_each_mode file (csr ∷ csrs) [] has = has
written_each_mode file (csr ∷ csrs) (value ∷ values) has = written_each_mode (written file csr value) csrs values (written_mode file csr value has)

-- reset
mode_u : HasMode 0
unfolding field_of
mode_u = λ two. absurd cc

pub reset_mode : (hart : ℕ) (raw : List ℕ) → HasMode (reset hart raw).mstatus
unfolding reset
reset_mode hart raw =
    let writes = written_each zero_file (drop 1 all_csrs) (drop 1 raw) in
    beside mprv (with_field mie writes.mstatus 0) 0 (lit≤ tt) (inr (lit≤ tt))
    (beside mie writes.mstatus 0 (lit≤ tt) (inl (lit≤ tt)) (written_each_mode zero_file (drop 1 all_csrs) (drop 1 raw) mode_u))

-- MPP becomes the number of a mode
set : (status : ℕ) (mode : Mode) → HasMode (with_field mpp status (mode_number mode))
set status U = λ two. absurd (numbers 0 (sym (field_of-with_field mpp status 0 (lit≤ tt) (lit< tt)) ∙ two) refl)
set status S = λ two. absurd (numbers 1 (sym (field_of-with_field mpp status 1 (lit≤ tt) (lit< tt)) ∙ two) refl)
set status M = λ two. absurd (numbers 3 (sym (field_of-with_field mpp status 3 (lit≤ tt) (lit< tt)) ∙ two) refl)

-- traps, and the returns from them
pub pushed_m_mode : (status : ℕ) (mode : Mode) → HasMode (pushed m_stack status mode)
unfolding pushed
pushed_m_mode status mode = set (with_field mie (with_field mpie status (field_of mie status)) 0) mode

pub pushed_s_mode : (status : ℕ) (mode : Mode) → HasMode status → HasMode (pushed s_stack status mode)
unfolding pushed
pushed_s_mode status mode has =
    let kept_enable = with_field spie status (field_of sie status) in
    beside spp (with_field sie kept_enable 0) (mode_number mode) (lit≤ tt) (inl (lit≤ tt))
    (beside sie kept_enable 0 (lit≤ tt) (inl (lit≤ tt)) (beside spie status (field_of sie status) (lit≤ tt) (inl (lit≤ tt)) has))

pub popped_m_mode : (status : ℕ) → HasMode (popped m_stack status)
unfolding popped
popped_m_mode status = set (with_field mpie (with_field mie status (field_of mpie status)) 1) U

pub popped_s_mode : (status : ℕ) → HasMode status → HasMode (popped s_stack status)
unfolding popped
popped_s_mode status has =
    let back = with_field sie status (field_of spie status) in
    beside spp (with_field spie back 1) 0 (lit≤ tt) (inl (lit≤ tt))
    (beside spie back 1 (lit≤ tt) (inl (lit≤ tt)) (beside sie status (field_of spie status) (lit≤ tt) (inl (lit≤ tt)) has))

pub without_mprv_mode : (status : ℕ) → HasMode status → HasMode (with_field mprv status 0)
without_mprv_mode status has = beside mprv status 0 (lit≤ tt) (inr (lit≤ tt)) has

pub mret_status_mode : (mode : Mode) (status : ℕ) → HasMode (mret_status mode status)
mret_status_mode U status = without_mprv_mode (popped m_stack status) (popped_m_mode status)
mret_status_mode S status = without_mprv_mode (popped m_stack status) (popped_m_mode status)
mret_status_mode M status = popped_m_mode status
