-- Where a jump may go, and what the next words of the hart's stream make of it.
use Rattle.std.specs.Prelude.{Bool, List, Option, min, nat_lt, pos, ℕ, ◌+◌, ◌-◌, ◌*◌, ◌/◌, ◌%◌, ◌^◌, ◌∷◌, ◌-ℤ◌, []}
use Rattle.choice_tree.specs.Draws.{Draws, next_word, skipped}
use Rattle.operand_solver.specs.Operands.{Drawn, Operand, allowed, no_operand, offset_by, operand, registers_drawn, registers_of}
use Rattle.region_plan.specs.Request.{Demand, JumpRequest, Misaligned, PageFault, Pins, Quiet}
use Rattle.rv_fields.specs.Immediate.{wrapped}
use Rattle.rv_fields.specs.declared.row_table.Ins.{Ins}
use Rattle.rv_fields.specs.declared.row_table.Ins.TheVariants.{Jal, Jalr}
use Rattle.rv_fields.specs.declared.row_table.Ops.{Ops}

-- rd, base and source; the base of jalr isn't x0
abbrev pub jump_registers : Ins → Pins → Option ℕ → List Operand
jump_registers Jalr pins counter = operand (allowed pins counter 0) pins.rd ∷ operand (allowed pins counter 1) pins.rs1 ∷ no_operand ∷ []
jump_registers ins pins counter = registers_of ins pins counter

-- how many words a jump makes: a jalr's base is loaded
abbrev pub jump_words : Ins → ℕ
jump_words Jalr = 9
jump_words ins = 1

-- how far the instruction reaches, in bytes
abbrev pub reach_of : Ins → ℕ
reach_of Jal = 2 ^ 20 - 2
reach_of Jalr = 2 ^ 64
reach_of ins = 4094

-- a misaligned jump goes 2 bytes past a word
abbrev pub beyond : Demand → ℕ
beyond Quiet = 0
beyond PageFault = 0
beyond Misaligned = 2

-- How many words ahead it may go at most, where its own word has this index: as the request says, to the window's last
-- word, and as far as it reaches.
abbrev pub farthest : Ins → JumpRequest → ℕ → ℕ → ℕ
farthest ins r own window = min r.most (min (window - 1 - own) ((reach_of ins - beyond r.demand) / 4))

abbrev pub own_index : Ins → ℕ → ℕ
own_index ins index = index + jump_words ins - 1

-- no number of words ahead will do
abbrev pub has_no_target : Ins → JumpRequest → ℕ → ℕ → Bool
has_no_target ins r index window = nat_lt (farthest ins r (own_index ins index) window) r.least

-- the operands, the base's value of a jalr, and the stream behind their words
pub record Targeted : Type 0 where
  pub ops : Ops
  pub base_value : ℕ
  pub left : Draws

abbrev pub aimed : Ins → Drawn → ℕ → ℕ → Targeted
aimed Jalr d distance at =
    let offset = offset_by (next_word (skipped d.left 1)) in
    record { ops = record d.ops { imm = offset }; base_value = wrapped (pos (at + distance) -ℤ offset); left = skipped d.left 2 }
aimed ins d distance at = record { ops = record d.ops { imm = pos distance }; base_value = 0; left = skipped d.left 1 }

-- the registers, then the number of words ahead, and for a jalr the offset
abbrev pub targeted : Ins → JumpRequest → Option ℕ → ℕ → ℕ → ℕ → Draws → Targeted
targeted ins r counter code index window draws =
    let d = registers_drawn draws (jump_registers ins r.pins counter) in
    let ahead = r.least + next_word d.left % (farthest ins r (own_index ins index) window - r.least + 1) in
    aimed ins d (4 * ahead + beyond r.demand) (code + 4 * own_index ins index)
