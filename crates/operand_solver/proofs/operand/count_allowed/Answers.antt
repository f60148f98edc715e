-- Each register is counted that isn't avoided.
use Rattle.std.proofs.Common.{◌+◌, ◌∙◌, length, ap, sym, arith}
use Rattle.region_plan.specs.Views.{pins_seen}
use Rattle.region_plan.specs.Request.{Pins}
use Rattle.operand_solver.proofs.Counted.{all_left, count_more, count_on, few_allowed, left_from, none_left}
use Rattle.operand_solver.proofs.operand.count_allowed.Goals.{then-not-contains, else-not-contains}
use Rattle.operand_solver.proofs.operand.count_allowed.Goals as goal

pub loop-register-init : goal.loop-register-init
loop-register-init c = let all = ap length (all_left (pins_seen c.args.pins.now)) in omega (arith, all)

pub overflow_add-count : goal.overflow_add-count
overflow_add-count c =
    let few = few_allowed (pins_seen c.args.pins.now) in
    let so_far = c.loop-register.invariant in omega (arith, few, so_far)

pub loop-register-preserved : goal.loop-register-preserved
loop-register-preserved c =
    let pins : Pins = pins_seen c.args.pins.now in
    elim c.if-not-contains.branch [
      | then-not-contains w ↦
          ap (λ n. n + length (left_from pins (c.loop-register.register + 1))) w.count-is
          ∙ count_more pins c.loop-register.register c.loop-register.count c.loop-register-test.true (sym c.contains.ensures ∙ w.if-not-contains.true) c.loop-register.invariant
      | else-not-contains w ↦
          ap (λ n. n + length (left_from pins (c.loop-register.register + 1))) w.count-is
          ∙ count_on pins c.loop-register.register c.loop-register.count c.loop-register-test.true (sym c.contains.ensures ∙ w.if-not-contains.false) c.loop-register.invariant
    ]

pub returns-clause-count : goal.returns-clause-count
returns-clause-count c =
    let none = ap length (none_left (pins_seen c.args.pins.now) c.loop-register.register c.loop-register-test.false) in
    let so_far = c.loop-register.invariant in omega (arith, none, so_far)

pub returns-clause-few : goal.returns-clause-few
returns-clause-few c =
    let few = few_allowed (pins_seen c.args.pins.now) in
    let so_far = c.loop-register.invariant in omega (arith, few, so_far)
