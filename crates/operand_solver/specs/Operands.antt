-- What a request's operands may be, and which of them the next words of a stream choose.
use Rattle.region_plan.specs.Plan.{is_it}
use Rattle.region_plan.specs.Registers.{is_among, registers}
use Rattle.std.specs.List.{list_all, range_with_len}
use Rattle.std.specs.Prelude.{Bool, IfSome, IsTrue, List, None, Option, Some, false, filter, get_or, length, not, pos, true, ℕ, ℤ, ◌-◌, ◌%◌, ◌^◌, ◌==◌, ◌≡◌, ◌&&◌, ◌∷◌, ◌-ℤ◌, ◌*ℤ◌, [], if◌then◌else◌}
use Rattle.rv_fields.specs.declared.row_table.Form.TheVariants.{U, I, H6, H5}
use Rattle.choice_tree.specs.Draws.{Draws, next_word, skipped}
use Rattle.region_plan.specs.Request.{Pins}
use Rattle.rv_fields.specs.Decode.{has_rd, has_rs1, has_rs2}
use Rattle.rv_fields.specs.Immediate.{signed_of}
use Rattle.rv_fields.specs.RowTable.{form_of}
use Rattle.rv_fields.specs.declared.row_table.Form.{Form}
use Rattle.rv_fields.specs.declared.row_table.Ins.{Ins}
use Rattle.rv_fields.specs.declared.row_table.Ins.TheVariants.{Fence}
use Rattle.rv_fields.specs.declared.row_table.Ops.{Ops}

-- the registers that an operand may be, and whether a word chooses among them
pub record Operand : Type 0 where
  pub members : List ℕ
  pub drawn : Bool

-- A pin is the one member, where it is one. A member is drawn even where there is but one.
abbrev pub operand : List ℕ → Option ℕ → Operand
operand set None = record { members = set; drawn = true }
operand set (Some pin) = record { members = filter (λ r. r == pin) set; drawn = false }

-- x0 stands where no operand is
abbrev pub no_operand : Operand
no_operand = record { members = 0 ∷ []; drawn = false }

abbrev pub if_has : Bool → Operand → Operand
if_has has o = if has then o else no_operand

-- the registers from the least on, but those to avoid and the counter of the loop in which the request stands
abbrev pub allowed : Pins → Option ℕ → ℕ → List ℕ
allowed pins counter least = filter (λ r. not (is_among pins.avoid r) && not (is_it r counter)) (range_with_len least (registers - least))

-- whether some choice of registers serves all of them
abbrev pub serve : List Operand → Bool
serve operands = list_all (λ o. not (length o.members == 0)) operands

-- the member at the word modulo their number
abbrev pub chosen : List ℕ → ℕ → ℕ
chosen members word = get_or members (word % length members) 0

abbrev pub value_of_operand : Draws → Operand → ℕ
value_of_operand draws o = if o.drawn then chosen o.members (next_word draws) else get_or o.members 0 0

abbrev pub behind_operand : Draws → Operand → Draws
behind_operand draws o = if o.drawn then skipped draws 1 else draws

-- the register may stand at this place among the operands
abbrev pub may_be : List Operand → ℕ → ℕ → Bool
may_be operands place register = is_among (get_or operands place no_operand).members register

-- ---- instructions whose operands are drawn without regard to anything else: of `ins`, `csr` and branches

-- fence has no operands among the registers
abbrev pub registers_of : Ins → Pins → Option ℕ → List Operand
registers_of Fence pins counter = no_operand ∷ no_operand ∷ no_operand ∷ []
registers_of ins pins counter = if_has (has_rd (form_of ins)) (operand (allowed pins counter 0) pins.rd)
    ∷ if_has (has_rs1 (form_of ins) && not pins.zero_rs1) (operand (allowed pins counter 0) pins.rs1)
    ∷ if_has (has_rs2 (form_of ins)) (operand (allowed pins counter 0) pins.rs2)
    ∷ []

abbrev pub offset_by : ℕ → ℤ
offset_by word = pos (word % 4096) -ℤ pos 2048

abbrev pub imm_in : Form → ℕ → Option ℤ
imm_in I word = Some (offset_by word)
imm_in U word = Some (signed_of (2 ^ 19) (word % 2 ^ 20) *ℤ pos 4096)
imm_in H6 word = Some (pos (word % 64))
imm_in H5 word = Some (pos (word % 32))
imm_in form word = None

-- Operands that serve: each register is one of those that it may be, and a pinned immediate stands as it is.
pub record Serves (ins : Ins) (pins : Pins) (counter : Option ℕ) (ops : Ops) : Type 0 where
  pub rd : IsTrue (may_be (registers_of ins pins counter) 0 ops.rd)
  pub rs1 : IsTrue (may_be (registers_of ins pins counter) 1 ops.rs1)
  pub rs2 : IsTrue (may_be (registers_of ins pins counter) 2 ops.rs2)
  pub imm : IfSome pins.imm (λ imm. ops.imm ≡ imm)

-- a word read as an immediate of the instruction; none where its form has none to draw
abbrev pub imm_by : Ins → ℕ → Option ℤ
imm_by Fence word = Some (pos (word % 256))
imm_by ins word = imm_in (form_of ins) word

-- an instruction with its operands, and the stream behind their words
pub record Drawn : Type 0 where
  pub ops : Ops
  pub left : Draws

-- rd, rs1 and rs2, in this order
abbrev pub drawn_registers : Draws → Operand → Operand → Operand → Drawn
drawn_registers draws rd rs1 rs2 =
    let behind_rd = behind_operand draws rd in
    let behind_rs1 = behind_operand behind_rd rs1 in
    record {
      ops = record { rd = value_of_operand draws rd; rs1 = value_of_operand behind_rd rs1; rs2 = value_of_operand behind_rs1 rs2; imm = pos 0; aqrl = 0 };
      left = behind_operand behind_rs1 rs2;
    }

abbrev pub registers_drawn : Draws → List Operand → Drawn
registers_drawn draws operands = drawn_registers draws (get_or operands 0 no_operand) (get_or operands 1 no_operand) (get_or operands 2 no_operand)

abbrev pub with_drawn_imm : Option ℤ → Drawn → Drawn
with_drawn_imm None d = d
with_drawn_imm (Some imm) d = record { ops = record d.ops { imm = imm }; left = skipped d.left 1 }

-- the immediate behind them, where it isn't pinned
abbrev pub with_imm : Ins → Option ℤ → Drawn → Drawn
with_imm ins (Some pin) d = record d { ops = record d.ops { imm = pin } }
with_imm ins None d = with_drawn_imm (imm_by ins (next_word d.left)) d

abbrev pub operands_drawn : Ins → Pins → Option ℕ → Draws → Drawn
operands_drawn ins pins counter draws = with_imm ins pins.imm (registers_drawn draws (registers_of ins pins counter))
