-- What the code draws one after another are the operands that the definition draws.
use Rattle.std.proofs.Common.{ℕ, ℤ, pos, ◌≡◌, ◌==◌, true, not, ◌&&◌, [], ◌∷◌, length, Option, Some, None, refl, sym, ap, ◌∙◌}
use Rattle.rv_fields.specs.declared.row_table.Ins.{Ins}
use Rattle.rv_fields.specs.declared.row_table.Ops.{Ops}
use Rattle.std.specs.Prelude.{is_none}
use Rattle.choice_tree.specs.Draws.{Draws, next_word}
use Rattle.region_plan.specs.Pinned.{fits_word, pinned_ops}
use Rattle.region_plan.specs.Request.{Pins}
use Rattle.operand_solver.proofs.Drawn.{drawn_fits}
use Rattle.operand_solver.specs.Drawing.{allowed_to, imm_behind, imm_drawn}
use Rattle.operand_solver.specs.Operands.{Drawn, Operand, allowed, behind_operand, imm_by, operands_drawn, registers_drawn, registers_of, serve, value_of_operand, with_drawn_imm, with_imm}

pub allowed_is : (pins : Pins) → allowed_to pins ≡ allowed pins None 0
unfolding allowed_to
allowed_is pins = refl

-- the immediate, drawn by itself
imm_alone : (ins : Ins) (pin : Option ℤ) (rd rs1 rs2 : ℕ) (draws : Draws)
    → with_imm ins pin (record { ops = record { rd = rd; rs1 = rs1; rs2 = rs2; imm = pos 0; aqrl = 0 }; left = draws })
    ≡ record { ops = record { rd = rd; rs1 = rs1; rs2 = rs2; imm = (imm_behind ins pin draws).imm; aqrl = 0 }; left = (imm_behind ins pin draws).left }
imm_alone ins (Some imm) rd rs1 rs2 draws = refl
imm_alone ins None rd rs1 rs2 draws = of (imm_by ins (next_word draws))
  where
    of : (m : Option ℤ) → with_drawn_imm m (record { ops = record { rd = rd; rs1 = rs1; rs2 = rs2; imm = pos 0; aqrl = 0 }; left = draws })
        ≡ record { ops = record { rd = rd; rs1 = rs1; rs2 = rs2; imm = (imm_drawn m draws).imm; aqrl = 0 }; left = (imm_drawn m draws).left }
    of None = refl
    of (Some imm) = refl

-- three registers and an immediate, each drawn behind the one before
pub record AreDrawn (ins : Ins) (pin : Option ℤ) (a b c : Operand) (draws : Draws) (ops : Ops) (left : Draws) : Type 0 where
  pub behind_rd : Draws
  pub behind_rs1 : Draws
  pub behind_rs2 : Draws
  pub rd : ops.rd ≡ value_of_operand draws a
  pub rd_left : behind_rd ≡ behind_operand draws a
  pub rs1 : ops.rs1 ≡ value_of_operand behind_rd b
  pub rs1_left : behind_rs1 ≡ behind_operand behind_rd b
  pub rs2 : ops.rs2 ≡ value_of_operand behind_rs1 c
  pub rs2_left : behind_rs2 ≡ behind_operand behind_rs1 c
  pub imm : ops.imm ≡ (imm_behind ins pin behind_rs2).imm
  pub imm_left : left ≡ (imm_behind ins pin behind_rs2).left
  pub order : ops.aqrl ≡ 0

pub solved : (ins : Ins) (pins : Pins) (a b c : Operand) (draws : Draws) (ops : Ops) (left : Draws) → a ∷ b ∷ c ∷ [] ≡ registers_of ins pins None → AreDrawn ins pins.imm a b c draws ops left
    → ◌≡◌ {A = Drawn} (record { ops = ops; left = left }) (operands_drawn ins pins None draws)
solved ins pins a b c draws ops left are q =
    let second : q.behind_rs1 ≡ behind_operand (behind_operand draws a) b = q.rs1_left ∙ ap (λ d. behind_operand d b) q.rd_left in
    let third : q.behind_rs2 ≡ behind_operand (behind_operand (behind_operand draws a) b) c = q.rs2_left ∙ ap (λ d. behind_operand d c) second in
    let rs1 = q.rs1 ∙ ap (λ d. value_of_operand d b) q.rd_left in
    let rs2 = q.rs2 ∙ ap (λ d. value_of_operand d c) second in
    let imm = q.imm ∙ ap (λ d. (imm_behind ins pins.imm d).imm) third in
    let last = q.imm_left ∙ ap (λ d. (imm_behind ins pins.imm d).left) third in
    (λ i. record { ops = record { rd = q.rd i; rs1 = rs1 i; rs2 = rs2 i; imm = imm i; aqrl = q.order i }; left = last i })
    ∙ sym (imm_alone ins pins.imm _ _ _ _) ∙ ap (λ os. with_imm ins pins.imm (registers_drawn draws os)) are

-- where each operand has a member, they serve
pub all_serve : (ins : Ins) (pins : Pins) (a b c : Operand) → a ∷ b ∷ c ∷ [] ≡ registers_of ins pins None
    → true ≡ not (length a.members == 0) → true ≡ not (length b.members == 0) → true ≡ not (length c.members == 0) → serve (registers_of ins pins None) ≡ true
all_serve ins pins a b c are first second third = ap serve (sym are) ∙ (λ i. sym first i && (sym second i && (sym third i && true)))

fits_so : {A : Type 0} (m : Option A) → m ≡ None → is_none m ≡ true
fits_so m e = ap is_none e

pub drawn_fit : (ins : Ins) (pins : Pins) (draws left : Draws) (ops : Ops) → fits_word ins (pinned_ops pins) ≡ true → serve (registers_of ins pins None) ≡ true
    → ◌≡◌ {A = Drawn} (record { ops = ops; left = left }) (operands_drawn ins pins None draws) → fits_word ins ops ≡ true
drawn_fit ins pins draws left ops fits served are =
    ap (λ (d : Drawn). fits_word ins d.ops) are ∙ fits_so _ (drawn_fits ins pins None draws fits served)
