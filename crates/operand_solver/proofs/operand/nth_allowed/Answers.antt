-- The register of the number is the first of those that are left, or that of a lower number behind it.
use Rattle.std.proofs.Common.{ℕ, ◌+◌, ◌<◌, ◌∙◌, List, get_or, length, ap, sym, subst, arith}
use Rattle.region_plan.specs.Views.{pins_seen}
use Rattle.region_plan.specs.Request.{Pins}
use Rattle.operand_solver.proofs.Counted.{IsLeft, all_left, found_there, left_more, left_on, none_left}
use Rattle.operand_solver.proofs.operand.nth_allowed.Goals.{then-not-contains+else-left-eq0, else-not-contains}
use Rattle.operand_solver.proofs.operand.nth_allowed.Goals as goal

pub loop-register-init : goal.loop-register-init
loop-register-init c =
    let all = all_left (pins_seen c.args.pins.now) in
    (ap (λ xs. get_or xs c.args.number 0) all, subst (λ (xs : List ℕ). c.args.number < length xs) (sym all) c.requires)

pub returns-then-left-eq0 : goal.returns-then-left-eq0
returns-then-left-eq0 c =
    found_there (pins_seen c.args.pins.now) c.loop-register.register c.loop-register.left c.args.number c.loop-register-test.true (sym c.contains.ensures ∙ c.if-not-contains.true) c.if-left-eq0.true c.loop-register.invariant

pub loop-register-preserved : goal.loop-register-preserved
loop-register-preserved c =
    let pins : Pins = pins_seen c.args.pins.now in
    elim c.if-not-contains.branch [
      | then-not-contains+else-left-eq0 w ↦
          subst (λ n. IsLeft pins (c.loop-register.register + 1) n c.args.number) (sym w.left-is)
          (left_more pins c.loop-register.register c.loop-register.left c.args.number c.loop-register-test.true (sym c.contains.ensures ∙ w.if-not-contains.true) w.if-left-eq0.false c.loop-register.invariant)
      | else-not-contains w ↦
          subst (λ n. IsLeft pins (c.loop-register.register + 1) n c.args.number) (sym w.left-is)
          (left_on pins c.loop-register.register c.loop-register.left c.args.number c.loop-register-test.true (sym c.contains.ensures ∙ w.if-not-contains.false) c.loop-register.invariant)
    ]

pub unreachable-requires : goal.unreachable-requires
unreachable-requires c =
    let none = ap length (none_left (pins_seen c.args.pins.now) c.loop-register.register c.loop-register-test.false) in
    let some = c.loop-register.invariant.1 in omega (arith, none, some)
