-- The key of a word: the fields that tell its instruction from others.
use Rattle.std.specs.Prelude.{ℕ, ◌==◌, ◌&&◌, Bool, Option, find}
use Rattle.rv_fields.specs.declared.row_table.Ins.{Ins}
use Rattle.rv_fields.specs.declared.row_table.Form.{Form}
use Rattle.rv_fields.specs.declared.row_table.Form.TheVariants.{U, J, H6, H5, R, A, L, V, N}
use Rattle.rv_fields.specs.RowTable.{all_ins, form_of, value_of}
use Rattle.rv_fields.specs.Immediate.{bits_of}
use Rattle.rv_table.specs.declared.opcodes.Key.{Key}

abbrev pub key_of : ℕ → Key
key_of word = record {
  opcode = bits_of word 0 7;
  funct3 = bits_of word 12 3;
  funct5 = bits_of word 27 5;
  funct7 = bits_of word 25 7;
  funct12 = bits_of word 20 12;
}

-- the fields by which the rows of the form are told apart are the same in both keys
abbrev pub same_key : Form → Key → Key → Bool
same_key U a b = a.opcode == b.opcode
same_key J a b = a.opcode == b.opcode
same_key H6 a b = (a.opcode == b.opcode) && (a.funct3 == b.funct3) && (a.funct5 == b.funct5)
same_key A a b = (a.opcode == b.opcode) && (a.funct3 == b.funct3) && (a.funct5 == b.funct5)
same_key L a b = (a.opcode == b.opcode) && (a.funct3 == b.funct3) && (a.funct5 == b.funct5)
same_key H5 a b = (a.opcode == b.opcode) && (a.funct3 == b.funct3) && (a.funct7 == b.funct7)
same_key R a b = (a.opcode == b.opcode) && (a.funct3 == b.funct3) && (a.funct7 == b.funct7)
same_key V a b = (a.opcode == b.opcode) && (a.funct3 == b.funct3) && (a.funct7 == b.funct7)
same_key N a b = (a.opcode == b.opcode) && (a.funct3 == b.funct3) && (a.funct12 == b.funct12)
same_key _ a b = (a.opcode == b.opcode) && (a.funct3 == b.funct3)

-- the first instruction of the table whose row has the key
abbrev pub ins_with : Key → Option Ins
ins_with key = find (λ i. same_key (form_of i) key (key_of (value_of i))) all_ins
