-- What a word says: the one row that agrees with it, and the fields of that row's form.
use Rattle.std.specs.Prelude.{ℕ, ◌==◌, ℤ, pos, Bool, true, false, bit_and, List, [], ◌∷◌, Option, option_map, find, if◌then◌else◌}
use Rattle.rv_fields.specs.declared.row_table.Ins.{Ins}
use Rattle.rv_fields.specs.declared.row_table.Form.{Form}
use Rattle.rv_fields.specs.declared.row_table.Form.TheVariants.{U, J, I, B, S, H6, H5, R, A, L, C, K, V, N}
use Rattle.rv_fields.specs.declared.row_table.Ops.{Ops}
use Rattle.rv_fields.specs.Immediate.{bits_of, imm_i, imm_s, imm_b, imm_u, imm_j}
use Rattle.rv_fields.specs.RowTable.{all_ins, form_of, mask_of, value_of}

-- the places of rd, rs1, rs2, and aq with rl in a word
abbrev pub rd_of : ℕ → ℕ
rd_of word = bits_of word 7 5

abbrev pub rs1_of : ℕ → ℕ
rs1_of word = bits_of word 15 5

abbrev pub rs2_of : ℕ → ℕ
rs2_of word = bits_of word 20 5

abbrev pub aqrl_of : ℕ → ℕ
aqrl_of word = bits_of word 25 2

-- the immediate of the form in a word: signed, or a shift amount, or the number of a CSR
abbrev pub imm_of : Form → ℕ → ℤ
imm_of U word = imm_u word
imm_of J word = imm_j word
imm_of I word = imm_i word
imm_of B word = imm_b word
imm_of S word = imm_s word
imm_of H6 word = pos (bits_of word 20 6)
imm_of H5 word = pos (bits_of word 20 5)
imm_of C word = pos (bits_of word 20 12)
imm_of K word = pos (bits_of word 20 12)
imm_of _ word = pos 0

-- which fields each form has
abbrev pub has_rd : Form → Bool
has_rd B = false
has_rd S = false
has_rd V = false
has_rd N = false
has_rd _ = true

abbrev pub has_rs1 : Form → Bool
has_rs1 U = false
has_rs1 J = false
has_rs1 N = false
has_rs1 _ = true

abbrev pub has_rs2 : Form → Bool
has_rs2 B = true
has_rs2 S = true
has_rs2 R = true
has_rs2 A = true
has_rs2 V = true
has_rs2 _ = false

-- an immediate or a shift amount; the number of a CSR is none
abbrev pub has_imm : Form → Bool
has_imm R = false
has_imm A = false
has_imm L = false
has_imm C = false
has_imm K = false
has_imm V = false
has_imm N = false
has_imm _ = true

abbrev pub has_aqrl : Form → Bool
has_aqrl A = true
has_aqrl L = true
has_aqrl _ = false

-- the fields of the form in a word; those that it lacks are 0
abbrev pub fields_of : Form → ℕ → Ops
fields_of form word = record {
  rd = if has_rd form then rd_of word else 0;
  rs1 = if has_rs1 form then rs1_of word else 0;
  rs2 = if has_rs2 form then rs2_of word else 0;
  imm = imm_of form word;
  aqrl = if has_aqrl form then aqrl_of word else 0;
}

-- the test that a word is of the instruction's row
abbrev pub agrees : ℕ → Ins → Bool
agrees word ins = bit_and word (mask_of (form_of ins)) == value_of ins

-- the instruction of the row that agrees with the word; none where no row does
unfoldable pub ins_at : ℕ → Option Ins
ins_at word = find (agrees word) all_ins

-- an instruction with its operands
pub record Decoded : Type 0 where
  pub ins : Ins
  pub ops : Ops

-- the register that is read as rs1; in form K a number stands in its place, and none is read but x0
abbrev pub rs1_of_form : Form → Ops → ℕ
rs1_of_form K ops = 0
rs1_of_form form ops = ops.rs1

abbrev pub rs1_read : Decoded → ℕ
rs1_read d = rs1_of_form (form_of d.ins) d.ops

-- The registers that an instruction reads, rs1 before rs2, each once. One that its form lacks is x0.
abbrev pub sources : Decoded → List ℕ
sources d = if rs1_read d == d.ops.rs2 then rs1_read d ∷ [] else rs1_read d ∷ d.ops.rs2 ∷ []

abbrev pub decoded : ℕ → Option Decoded
decoded word = option_map (λ ins. record { ins = ins; ops = fields_of (form_of ins) word }) (ins_at word)
