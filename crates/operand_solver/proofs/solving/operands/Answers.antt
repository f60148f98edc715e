-- What is drawn are the operands, and they fit.
use Rattle.std.proofs.Common.{rules, ◌∙◌, ap, refl}
use Rattle.region_plan.specs.Views.{pins_seen}
use Rattle.operand_solver.specs.Operands.{behind_operand, value_of_operand}
use Rattle.operand_solver.proofs.Solved.{all_serve, drawn_fit, solved}
use Rattle.operand_solver.proofs.solving.operands.Goals as goal

pub returns-clause-drawn : goal.returns-clause-drawn
returns-clause-drawn c =
    solved c.args.ins (pins_seen c.args.pins.now) _ _ _ c.args.words.now _ c.draw_imm.new.words c.of-has.ensures (record {
      behind_rd = c.draw.new.words;
      behind_rs1 = c.draw-2.new.words;
      behind_rs2 = c.draw-3.new.words;
      rd = c.draw.ensures.register ∙ ap (value_of_operand c.args.words.now) c.in_ok-rd.ensures.operand;
      rd_left = c.draw.ensures.left ∙ ap (behind_operand c.args.words.now) c.in_ok-rd.ensures.operand;
      rs1 = c.draw-2.ensures.register ∙ ap (value_of_operand c.draw.new.words) c.in_ok-rs1.ensures.operand;
      rs1_left = c.draw-2.ensures.left ∙ ap (behind_operand c.draw.new.words) c.in_ok-rs1.ensures.operand;
      rs2 = c.draw-3.ensures.register ∙ ap (value_of_operand c.draw-2.new.words) c.in_ok-rs2.ensures.operand;
      rs2_left = c.draw-3.ensures.left ∙ ap (behind_operand c.draw-2.new.words) c.in_ok-rs2.ensures.operand;
      imm = (search rules) ∙ c.draw_imm.ensures.imm;
      imm_left = c.draw_imm.ensures.left;
      order = refl;
    })

pub returns-clause-fits : goal.returns-clause-fits
returns-clause-fits c =
    let served = all_serve c.args.ins (pins_seen c.args.pins.now) _ _ _ c.of-has.ensures c.in_ok-rd.ensures.served c.in_ok-rs1.ensures.served c.in_ok-rs2.ensures.served in
    drawn_fit c.args.ins (pins_seen c.args.pins.now) c.args.words.now c.draw_imm.new.words _ c.requires.fits served (returns-clause-drawn c)
