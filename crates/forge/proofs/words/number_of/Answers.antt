use Rattle.std.proofs.Common.{◌≡◌, ◌<◌, ◌≤◌, ◌*◌, ◌+◌, ◌^◌, ℕ, Option, Some, None, sym, ◌∙◌, arith}
use Rattle.std.specs.Option.{SomeIff}
use Rattle.forge.proofs.Digits.{number_ends, number_too_large}
use Rattle.forge.proofs.words.number_of.Goals as goal

-- the sum or the product that isn't there is too large
too_much : (result : Option ℕ) (n v : ℕ) → SomeIff result (n < 2 ^ 64) v → result ≡ None → 2 ^ 64 ≤ n
too_much None n v small e = omega (arith, small)
too_much (Some x) n v here e = cc

pub returns-in_err-checked_mul : goal.returns-in_err-checked_mul
returns-in_err-checked_mul c =
    let large : 2 ^ 64 ≤ c.loop-digit.number * 10 = too_much c.checked_mul.result (c.loop-digit.number * 10) (c.loop-digit.number * 10) c.checked_mul.ensures c.in_err-checked_mul.was in
    c.from_residual.ensures ∙ (sym (number_too_large c.loop-digit.number c.args.digits.now c.loop-digit.digit-index c.loop-digit-test.true (omega arith)) ∙ c.loop-digit.invariant.0)

pub returns-in_err-number : goal.returns-in_err-number
returns-in_err-number c =
    let large : 2 ^ 64 ≤ c.in_ok-checked_mul.field-0 + c.from.result = too_much c.checked_add.result (c.in_ok-checked_mul.field-0 + c.from.result) (c.in_ok-checked_mul.field-0 + c.from.result) c.checked_add.ensures c.in_err-number.was in
    c.from_residual-in_err-number.ensures ∙ (sym (number_too_large c.loop-digit.number c.args.digits.now c.loop-digit.digit-index c.loop-digit-test.true (omega (arith, c.in_ok-checked_mul.ensures))) ∙ c.loop-digit.invariant.0)

pub returns : goal.returns
returns c = sym (number_ends c.loop-digit.number c.args.digits.now c.loop-digit.digit-index c.loop-digit.invariant.1 c.loop-digit-test.false) ∙ c.loop-digit.invariant.0
