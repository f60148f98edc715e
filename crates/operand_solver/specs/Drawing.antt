-- What the code keeps of an operand before its word is drawn, and of an immediate.
use Rattle.std.specs.Prelude.{List, None, Option, Some, [], ◌∷◌, false, pos, true, ℕ, ℤ}
use Rattle.rv_fields.specs.declared.row_table.Ins.{Ins}
use Rattle.choice_tree.specs.Draws.{Draws, next_word, skipped}
use Rattle.operand_solver.specs.declared.solving.HasRegisters.{HasRegisters}
use Rattle.operand_solver.specs.declared.operand.RegisterOperand as code
use Rattle.operand_solver.specs.declared.operand.RegisterOperand.TheVariants.{Fixed, Allowed}
use Rattle.region_plan.specs.Request.{Pins}
use Rattle.operand_solver.specs.Operands.{Operand, allowed, if_has, imm_by, operand}

-- the registers that an operand outside of loops may be
unfoldable pub allowed_to : Pins → List ℕ
allowed_to pins = allowed pins None 0

-- an operand that is one register, or one of a set as a word says
abbrev pub operand_seen : List ℕ → code.RegisterOperand → Operand
operand_seen set (Fixed register) = record { members = register ∷ []; drawn = false }
operand_seen set Allowed = record { members = set; drawn = true }

-- the operands among the registers, where an instruction has these
abbrev pub operands_of : Pins → HasRegisters → List Operand
operands_of pins has = if_has has.rd (operand (allowed_to pins) pins.rd) ∷ if_has has.rs1 (operand (allowed_to pins) pins.rs1) ∷ if_has has.rs2 (operand (allowed_to pins) pins.rs2) ∷ []

-- an immediate, and the stream behind its word
pub record ImmDrawn : Type 0 where
  pub imm : ℤ
  pub left : Draws

abbrev pub imm_drawn : Option ℤ → Draws → ImmDrawn
imm_drawn None draws = record { imm = pos 0; left = draws }
imm_drawn (Some imm) draws = record { imm = imm; left = skipped draws 1 }

abbrev pub imm_behind : Ins → Option ℤ → Draws → ImmDrawn
imm_behind ins (Some pin) draws = record { imm = pin; left = draws }
imm_behind ins None draws = imm_drawn (imm_by ins (next_word draws)) draws
