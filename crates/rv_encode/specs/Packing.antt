-- The word of a row's value and of operands that fit its form: each field at its place.
use Rattle.std.specs.Prelude.{ℕ, ◌+◌, ◌*◌, ◌^◌, ℤ}
use Rattle.rv_fields.specs.declared.row_table.Form.{Form}
use Rattle.rv_fields.specs.declared.row_table.Form.TheVariants.{U, J, I, B, S, H6, H5, C, K}
use Rattle.rv_fields.specs.declared.row_table.Ins.{Ins}
use Rattle.rv_fields.specs.declared.row_table.Ops.{Ops}
use Rattle.rv_fields.specs.RowTable.{form_of, value_of}
use Rattle.rv_fields.specs.Immediate.{modulo, put_imm_i, put_imm_s, put_imm_b, put_imm_u, put_imm_j}

-- the row's value, the registers, and aq with rl; those that the form lacks are 0
abbrev pub without_imm : ℕ → Ops → ℕ
without_imm value ops = value + ops.rd * 2 ^ 7 + ops.rs1 * 2 ^ 15 + ops.rs2 * 2 ^ 20 + ops.aqrl * 2 ^ 25

-- the word with the form's immediate
abbrev pub put_imm : Form → ℕ → ℤ → ℕ
put_imm U word z = put_imm_u word z
put_imm J word z = put_imm_j word z
put_imm I word z = put_imm_i word z
put_imm B word z = put_imm_b word z
put_imm S word z = put_imm_s word z
put_imm H6 word z = word + modulo (2 ^ 6) z * 2 ^ 20
put_imm H5 word z = word + modulo (2 ^ 5) z * 2 ^ 20
put_imm C word z = word + modulo (2 ^ 12) z * 2 ^ 20
put_imm K word z = word + modulo (2 ^ 12) z * 2 ^ 20
put_imm _ word z = word

abbrev pub packed : Form → ℕ → Ops → ℕ
packed form value ops = put_imm form (without_imm value ops) ops.imm

-- the word of an instruction with operands that fit its form
abbrev pub word_by : Ins → Ops → ℕ
word_by ins ops = packed (form_of ins) (value_of ins) ops
