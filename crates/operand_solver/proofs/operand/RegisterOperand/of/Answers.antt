-- A pinned register is the one member, or there is none.
use Rattle.std.proofs.Common.{◌==◌, ◌∙◌, List, ℕ, length, not, Bool, false, ap, sym}
use Rattle.region_plan.specs.Views.{pins_seen}
use Rattle.region_plan.specs.Request.{Pins}
use Rattle.operand_solver.specs.Drawing.{allowed_to}
use Rattle.operand_solver.specs.Operands.{Operand, if_has, operand}
use Rattle.operand_solver.proofs.Counted.{pinned_avoided, pinned_past, pinned_there}
use Rattle.operand_solver.proofs.operand.RegisterOperand.of.Goals as goal

-- whether some register may stand there
abbrev has_member : Operand → Bool
has_member o = not (length o.members == 0)

-- the members of a pinned operand
abbrev pinned_by : List ℕ → Operand
pinned_by members = record { members = members; drawn = false }

pub returns-in-Some-clause-served : goal.returns-in-Some-clause-served
returns-in-Some-clause-served c =
    let pins : Pins = pins_seen c.args.pins.now in
    sym (ap has_member ((λ i. if_has (c.if-not-has.false i) (operand (allowed_to pins) (c.in-Some.is i))) ∙ ap pinned_by (pinned_there pins c.in-Some.register c.if-register-lt32.true (sym c.contains.ensures ∙ c.if-not-contains.true))))

pub returns-in-Some-clause-operand : goal.returns-in-Some-clause-operand
returns-in-Some-clause-operand c =
    let pins : Pins = pins_seen c.args.pins.now in
    sym ((λ i. if_has (c.if-not-has.false i) (operand (allowed_to pins) (c.in-Some.is i))) ∙ ap pinned_by (pinned_there pins c.in-Some.register c.if-register-lt32.true (sym c.contains.ensures ∙ c.if-not-contains.true)))

pub returns-in_default-2-clause-served : goal.returns-in_default-2-clause-served
returns-in_default-2-clause-served c =
    let pins : Pins = pins_seen c.args.pins.now in
    sym (ap has_member ((λ i. if_has (c.if-not-has.false i) (operand (allowed_to pins) (c.in-Some.is i))) ∙ ap pinned_by (pinned_avoided pins c.in-Some.register (sym c.contains.ensures ∙ c.if-not-contains.false))))

pub returns-in_default-2-2-clause-served : goal.returns-in_default-2-2-clause-served
returns-in_default-2-2-clause-served c =
    let pins : Pins = pins_seen c.args.pins.now in
    sym (ap has_member ((λ i. if_has (c.if-not-has.false i) (operand (allowed_to pins) (c.in-Some.is i))) ∙ ap pinned_by (pinned_past pins c.in-Some.register c.if-register-lt32.false)))
