-- All but a fence have the registers of their form.
use Rattle.std.proofs.Common.{◌≡◌, ◌&&◌, ◌∷◌, ◌∙◌, [], None, not, ap, sym}
use Rattle.rv_fields.specs.Decode.{has_rd, has_rs1, has_rs2}
use Rattle.rv_fields.specs.RowTable.{form_of}
use Rattle.region_plan.specs.Request.{Pins}
use Rattle.region_plan.specs.Views.{pins_seen}
use Rattle.operand_solver.specs.Drawing.{operands_of}
use Rattle.operand_solver.specs.Operands.{if_has, operand}
use Rattle.operand_solver.proofs.Drawn.{registers_by_form}
use Rattle.operand_solver.proofs.Solved.{allowed_is}
use Rattle.operand_solver.proofs.solving.HasRegisters.of.Goals.{then-has_rs1, else-has_rs1}
use Rattle.operand_solver.proofs.solving.HasRegisters.of.Goals as goal

pub returns-after-has_rs1 : goal.returns-after-has_rs1
returns-after-has_rs1 c =
    let pins : Pins = pins_seen c.args.pins.now in
    let ins = c.args.ins in
    let form = c.row-form.ensures.form in
    let rd : c.has_rd.result ≡ has_rd (form_of ins) = c.has_rd.ensures ∙ ap has_rd form in
    let rs2 : c.has_rs2.result ≡ has_rs2 (form_of ins) = c.has_rs2.ensures ∙ ap has_rs2 form in
    let has : c.has_rs1.result ≡ has_rs1 (form_of ins) = c.has_rs1.ensures ∙ ap has_rs1 form in
    let rs1 : c.if-has_rs1.result ≡ has_rs1 (form_of ins) && not pins.zero_rs1 = elim c.if-has_rs1.branch [
      | then-has_rs1 w ↦ w.result-is ∙ ap (λ b. b && not pins.zero_rs1) (sym w.if-has_rs1.true ∙ has)
      | else-has_rs1 w ↦ w.result-is ∙ w.if-has_rs1.false ∙ ap (λ b. b && not pins.zero_rs1) (sym w.if-has_rs1.false ∙ has)
    ] in
    (λ i. operands_of pins (record { rd = rd i; rs1 = rs1 i; rs2 = rs2 i }))
    ∙ ap (λ set. if_has (has_rd (form_of ins)) (operand set pins.rd) ∷ if_has (has_rs1 (form_of ins) && not pins.zero_rs1) (operand set pins.rs1) ∷ if_has (has_rs2 (form_of ins)) (operand set pins.rs2) ∷ []) (allowed_is pins)
    ∙ sym (registers_by_form ins pins None (λ is. c.in_default.not-Fences (c.class_of.ensures ∙ is)))
