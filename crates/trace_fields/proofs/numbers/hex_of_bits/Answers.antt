use Rattle.std.proofs.Common.{◌≡◌, ℕ, ◌/◌, ◌^◌, ◌≤◌, ◌∙◌, false, sym, inl, inr, eq-eqb}
use Rattle.std.proofs.Math.Nat.{div-eq_of_lt}
use Rattle.std.proofs.lemmas.Bool.{cases_lt, both_ways}
use Rattle.std.specs.Fmt.{digits}
use Rattle.trace_fields.proofs.Numerals.{too_large}
use Rattle.trace_fields.proofs.numbers.hex_of_bits.Goals as goal
use Rattle.trace_fields.proofs.numbers.hex_of_bits.Goals.{then-bits-eq-BITS, else-bits-eq-BITS}

at_least : (n bound : ℕ) → (n / bound ≡ 0 → ⊥) → bound ≤ n
at_least n bound some = elim (cases_lt n bound) [ inl below ↦ absurd (some (div-eq_of_lt below)) | inr above ↦ above ]

pub returns-else-number-bits-eq0 : goal.returns-else-number-bits-eq0
returns-else-number-bits-eq0 c = elim c.if-bits-eq-BITS.branch [
  | then-bits-eq-BITS w ↦
      absurd (both_ways c.if-bits-eq-BITS.value c.if-number-bits-eq0.false (w.value-is ∙ eq-eqb c.args.bits 64 w.if-bits-eq-BITS.true))
  | else-bits-eq-BITS w ↦
      let number = c.in_ok-number.number in
      let bound = 2 ^ c.args.bits in
      let above : bound ≤ number = at_least number bound
      (λ none. both_ways c.if-bits-eq-BITS.value c.if-number-bits-eq0.false (w.value-is ∙ eq-eqb (number / bound) 0 none)) in
      sym (too_large (digits 16 false) 16 (2 ^ 64) bound number c.args.field.now (sym c.hex_of.ensures ∙ c.in_ok-number.was) above)
]
