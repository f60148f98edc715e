-- Worked examples of what instructions compute, computed on the definitions.
use Rattle.std.proofs.Common.{◌≡◌, refl, ℕ, ◌-◌, ◌/◌, ◌%◌, ◌^◌, pos, negsuc, Bool, true, false, not, ◌&&◌, ◌==◌, List, [], ◌∷◌, map, length, filter, option_map}
use Rattle.std.specs.List.{list_any}
use Rattle.rv_fields.specs.declared.row_table.Ins.{Ins}
use Rattle.rv_fields.specs.declared.row_table.Ins.TheVariants.{Lui, Auipc, Addi, Sltiu, Xori, Addiw, Beq, Bne, Blt, Bge, Bltu, Bgeu, Slli, Sraiw, Add, Sub, Sll, Slt, Sltu, Xor, Srl, Sra, Or, And, Addw, Subw, Sllw, Srlw, Sraw, Mul, Mulh, Mulhsu, Mulhu, Div, Divu, Rem, Remu, Mulw, Divw, Divuw, Remw, Remuw, AmoswapW, AmoaddW, AmoxorW, AmoandW, AmoorW, AmominW, AmomaxW, AmominuW, AmomaxuW, AmoswapD, AmoaddD, AmominD, AmomaxD, AmominuD, AmomaxuD}
use Rattle.rv_fields.specs.declared.row_table.Ops.{Ops}
use Rattle.rv_fields.specs.RowTable.{all_ins, value_of}
use Rattle.rv_fields.specs.Meaning.{alu_computation, is_alu, is_amo, is_branch, alu_of, amo_of, is_taken, computed}

-- the results for some pairs of operands
abbrev results : Ins → List (ℕ × ℕ) → List ℕ
results ins pairs = map (λ p. alu_of ins p.0 p.1) pairs

-- -n as a register keeps it, and the least and the greatest signed number of 64 and of 32 bits
abbrev minus : ℕ → ℕ
minus n = 2 ^ 64 - n

abbrev least : ℕ
least = 0x8000000000000000

abbrev greatest : ℕ
greatest = 0x7fffffffffffffff

abbrev least_word : ℕ
least_word = 0xffffffff80000000

abbrev greatest_word : ℕ
greatest_word = 0x7fffffff

-- ---- sums and differences wrap

pub add : results Add ((1, minus 1) ∷ (greatest, 1) ∷ (least, minus 1) ∷ (least, least) ∷ []) ≡ 0 ∷ least ∷ greatest ∷ 0 ∷ []
add = refl

pub sub : results Sub ((0, 1) ∷ (least, 1) ∷ (greatest, minus 1) ∷ (5, 5) ∷ []) ≡ minus 1 ∷ greatest ∷ least ∷ 0 ∷ []
sub = refl

pub addw : results Addw ((greatest_word, 1) ∷ (minus 1, 1) ∷ (0x100000000, 1) ∷ (least_word, minus 1) ∷ []) ≡ least_word ∷ 0 ∷ 1 ∷ greatest_word ∷ []
addw = refl

pub subw : results Subw ((0, 1) ∷ (0x80000000, 1) ∷ (0x100000000, 1) ∷ []) ≡ minus 1 ∷ greatest_word ∷ minus 1 ∷ []
subw = refl

-- addiw with 0 extends the sign of the low 32 bits
pub sext_w : results Addiw ((0xffffffff, 0) ∷ (0x180000000, 0) ∷ (greatest, 0) ∷ []) ≡ minus 1 ∷ least_word ∷ minus 1 ∷ []
sext_w = refl

-- ---- bit by bit

pub bits : map (λ ins. alu_of ins 0xc 0xa) (Xor ∷ Or ∷ And ∷ []) ≡ 6 ∷ 0xe ∷ 8 ∷ []
bits = refl

-- xori with -1 turns each bit
pub not_of : results Xori ((0, minus 1) ∷ (least, minus 1) ∷ []) ≡ minus 1 ∷ greatest ∷ []
not_of = refl

-- ---- comparisons

pub slt : results Slt ((minus 1, 1) ∷ (1, minus 1) ∷ (least, greatest) ∷ (greatest, least) ∷ (0, 0) ∷ []) ≡ 1 ∷ 0 ∷ 1 ∷ 0 ∷ 0 ∷ []
slt = refl

pub sltu : results Sltu ((minus 1, 1) ∷ (1, minus 1) ∷ (least, greatest) ∷ (greatest, least) ∷ (0, 0) ∷ []) ≡ 0 ∷ 1 ∷ 0 ∷ 1 ∷ 0 ∷ []
sltu = refl

-- sltiu with 1 tells 0 from all else, and with -1 all else from 2^64 - 1
pub sltiu : results Sltiu ((0, 1) ∷ (1, 1) ∷ (0, minus 1) ∷ (minus 1, minus 1) ∷ []) ≡ 1 ∷ 0 ∷ 1 ∷ 0 ∷ []
sltiu = refl

-- ---- shifts, of whose amount the low 6 or 5 bits count

pub sll : results Sll ((1, 0) ∷ (1, 31) ∷ (1, 32) ∷ (1, 63) ∷ (1, 64) ∷ (minus 1, 32) ∷ []) ≡ 1 ∷ 0x80000000 ∷ 0x100000000 ∷ least ∷ 1 ∷ 0xffffffff00000000 ∷ []
sll = refl

pub srl : results Srl ((minus 1, 0) ∷ (minus 1, 31) ∷ (minus 1, 32) ∷ (minus 1, 63) ∷ (minus 1, minus 1) ∷ []) ≡ minus 1 ∷ 0x1ffffffff ∷ 0xffffffff ∷ 1 ∷ 1 ∷ []
srl = refl

pub sra : results Sra ((least, 0) ∷ (least, 31) ∷ (least, 32) ∷ (least, 63) ∷ (greatest, 63) ∷ (minus 7, 1) ∷ []) ≡ least ∷ 0xffffffff00000000 ∷ least_word ∷ minus 1 ∷ 0 ∷ minus 4 ∷ []
sra = refl

pub sllw : results Sllw ((1, 0) ∷ (1, 31) ∷ (1, 32) ∷ (minus 1, 63) ∷ []) ≡ 1 ∷ least_word ∷ 1 ∷ least_word ∷ []
sllw = refl

pub srlw : results Srlw ((minus 1, 0) ∷ (minus 1, 31) ∷ (minus 1, 32) ∷ (0x80000000, 1) ∷ []) ≡ minus 1 ∷ 1 ∷ minus 1 ∷ 0x40000000 ∷ []
srlw = refl

pub sraw : results Sraw ((0x80000000, 0) ∷ (0x80000000, 31) ∷ (0x80000000, 32) ∷ (greatest_word, 31) ∷ []) ≡ least_word ∷ minus 1 ∷ least_word ∷ 0 ∷ []
sraw = refl

-- ---- products

pub mul : results Mul ((minus 1, minus 1) ∷ (least, 2) ∷ (least, minus 1) ∷ (minus 3, 5) ∷ []) ≡ 1 ∷ 0 ∷ least ∷ minus 15 ∷ []
mul = refl

pub mulh : results Mulh ((minus 1, minus 1) ∷ (least, least) ∷ (minus 1, 1) ∷ (greatest, greatest) ∷ []) ≡ 0 ∷ 0x4000000000000000 ∷ minus 1 ∷ 0x3fffffffffffffff ∷ []
mulh = refl

pub mulhu : results Mulhu ((minus 1, minus 1) ∷ (least, least) ∷ (minus 1, 1) ∷ (least, 2) ∷ []) ≡ minus 2 ∷ 0x4000000000000000 ∷ 0 ∷ 1 ∷ []
mulhu = refl

pub mulhsu : results Mulhsu ((minus 1, minus 1) ∷ (minus 1, 1) ∷ (1, minus 1) ∷ (least, minus 1) ∷ []) ≡ minus 1 ∷ minus 1 ∷ 0 ∷ least ∷ []
mulhsu = refl

pub mulw : results Mulw ((greatest_word, greatest_word) ∷ (0x80000000, minus 1) ∷ (0x10001, 0x10000) ∷ []) ≡ 1 ∷ least_word ∷ 0x10000 ∷ []
mulw = refl

-- ---- division

pub div : results Div ((7, 2) ∷ (7, minus 2) ∷ (minus 7, 2) ∷ (minus 7, minus 2) ∷ (minus 7, 0) ∷ []) ≡ 3 ∷ minus 3 ∷ minus 3 ∷ 3 ∷ minus 1 ∷ []
div = refl

pub rem : results Rem ((7, 2) ∷ (7, minus 2) ∷ (minus 7, 2) ∷ (minus 7, minus 2) ∷ (minus 7, 0) ∷ []) ≡ 1 ∷ 1 ∷ minus 1 ∷ minus 1 ∷ minus 7 ∷ []
rem = refl

-- The overflowing division needs no case of its own: 2^63 and -2^63 are equal modulo 2^64.
pub overflow : map (λ ins. alu_of ins least (minus 1)) (Div ∷ Rem ∷ []) ≡ least ∷ 0 ∷ []
overflow = refl

pub by_zero : map (λ ins. alu_of ins least 0) (Div ∷ Divu ∷ Rem ∷ Remu ∷ []) ≡ minus 1 ∷ minus 1 ∷ least ∷ least ∷ []
by_zero = refl

pub divu : results Divu ((minus 1, 2) ∷ (least, minus 1) ∷ (7, 2) ∷ []) ≡ greatest ∷ 0 ∷ 3 ∷ []
divu = refl

pub remu : results Remu ((minus 1, 2) ∷ (least, minus 1) ∷ (7, 2) ∷ []) ≡ 1 ∷ least ∷ 1 ∷ []
remu = refl

pub overflow_of_words : map (λ ins. alu_of ins 0x80000000 0xffffffff) (Divw ∷ Remw ∷ []) ≡ least_word ∷ 0 ∷ []
overflow_of_words = refl

-- a divisor whose low 32 bits are 0
pub words_by_zero : map (λ ins. alu_of ins 0x80000000 0x100000000) (Divw ∷ Divuw ∷ Remw ∷ Remuw ∷ []) ≡ minus 1 ∷ minus 1 ∷ least_word ∷ least_word ∷ []
words_by_zero = refl

pub divw : results Divw ((minus 7, 2) ∷ (0xfffffff9, 2) ∷ (0x100000007, 2) ∷ []) ≡ minus 3 ∷ minus 3 ∷ 3 ∷ []
divw = refl

pub divuw : results Divuw ((0xffffffff, 1) ∷ (0xffffffff, 2) ∷ (minus 7, minus 7) ∷ []) ≡ minus 1 ∷ greatest_word ∷ 1 ∷ []
divuw = refl

pub remw : results Remw ((minus 7, 2) ∷ (0xfffffff9, minus 2) ∷ (7, minus 2) ∷ []) ≡ minus 1 ∷ minus 1 ∷ 1 ∷ []
remw = refl

pub remuw : results Remuw ((0xffffffff, 0x80000000) ∷ (0xffffffff, minus 1) ∷ (0xfffffffe, minus 1) ∷ []) ≡ greatest_word ∷ 0 ∷ minus 2 ∷ []
remuw = refl

-- ---- operands

abbrev with_immediate : ℕ → Ops
with_immediate n = record { rd = 1; rs1 = 2; rs2 = 0; imm = pos n; aqrl = 0 }

abbrev with_minus_one : Ops
with_minus_one = record { rd = 1; rs1 = 2; rs2 = 0; imm = negsuc 0; aqrl = 0 }

abbrev with_registers : Ops
with_registers = record { rd = 1; rs1 = 2; rs2 = 3; imm = pos 0; aqrl = 0 }

-- at pc 0x1000, where rs1 has 7, and rs2, which only the last of these reads, has 3
abbrev here : Ins → Ops → ℕ
here ins ops = computed ins ops 0x1000 7 3

pub from_upper_immediates : here Lui (with_immediate 0x5000) ∷ here Auipc (with_immediate 0x5000) ∷ [] ≡ 0x5000 ∷ 0x6000 ∷ []
from_upper_immediates = refl

pub from_immediates : here Addi with_minus_one ∷ here Sltiu with_minus_one ∷ here Slli (with_immediate 63) ∷ here Sraiw (with_immediate 1) ∷ [] ≡ 6 ∷ 1 ∷ least ∷ 3 ∷ []
from_immediates = refl

pub from_registers : here Sub with_registers ≡ 4
from_registers = refl

-- ---- numbers that AMOs write, of the row's width

abbrev written : Ins → List (ℕ × ℕ) → List ℕ
written ins pairs = map (λ p. amo_of ins p.0 p.1) pairs

pub amoswap : (written AmoswapW ((5, minus 1) ∷ []) ≡ 0xffffffff ∷ []) × (written AmoswapD ((5, minus 1) ∷ []) ≡ minus 1 ∷ [])
amoswap = (refl, refl)

pub amoadd : (written AmoaddW ((0xffffffff, 1) ∷ (greatest_word, 1) ∷ []) ≡ 0 ∷ 0x80000000 ∷ []) × (written AmoaddD ((0xffffffff, 1) ∷ (minus 1, 1) ∷ []) ≡ 0x100000000 ∷ 0 ∷ [])
amoadd = (refl, refl)

pub amo_bits : map (λ ins. amo_of ins 0xc 0xa) (AmoxorW ∷ AmoorW ∷ AmoandW ∷ []) ≡ 6 ∷ 0xe ∷ 8 ∷ []
amo_bits = refl

pub least_and_greatest : map (λ ins. amo_of ins (minus 1) 1) (AmominD ∷ AmomaxD ∷ AmominuD ∷ AmomaxuD ∷ []) ≡ minus 1 ∷ 1 ∷ 1 ∷ minus 1 ∷ []
least_and_greatest = refl

pub least_and_greatest_word : map (λ ins. amo_of ins 0x80000000 1) (AmominW ∷ AmomaxW ∷ AmominuW ∷ AmomaxuW ∷ []) ≡ 0x80000000 ∷ 1 ∷ 1 ∷ 0x80000000 ∷ []
least_and_greatest_word = refl

-- ---- branches

abbrev branches : List Ins
branches = Beq ∷ Bne ∷ Blt ∷ Bge ∷ Bltu ∷ Bgeu ∷ []

pub taken_at_less : map (λ ins. is_taken ins (minus 1) 1) branches ≡ false ∷ true ∷ true ∷ false ∷ false ∷ true ∷ []
taken_at_less = refl

pub taken_at_greater : map (λ ins. is_taken ins greatest least) branches ≡ false ∷ true ∷ false ∷ true ∷ true ∷ false ∷ []
taken_at_greater = refl

pub taken_at_equal : map (λ ins. is_taken ins least least) branches ≡ true ∷ false ∷ false ∷ true ∷ false ∷ true ∷ []
taken_at_equal = refl

-- ---- The tables agree with the opcodes of the rows' words, which group the rows by what they do.

abbrev opcode_is : List ℕ → Ins → Bool
opcode_is opcodes ins = list_any (λ opcode. value_of ins % 2 ^ 7 == opcode) opcodes

-- LUI, AUIPC, OP-IMM, OP-IMM-32, OP and OP-32
pub alu_rows : filter is_alu all_ins ≡ filter (opcode_is (0x37 ∷ 0x17 ∷ 0x13 ∷ 0x1b ∷ 0x33 ∷ 0x3b ∷ [])) all_ins
alu_rows = refl

-- the last two of these with 32 bits
pub word_rows : map (λ ins. option_map (λ c. c.bits == 32) (alu_computation ins)) (filter is_alu all_ins) ≡ map (λ ins. option_map (λ c. opcode_is (0x1b ∷ 0x3b ∷ []) ins) (alu_computation ins)) (filter is_alu all_ins)
word_rows = refl

-- BRANCH
pub branch_rows : filter is_branch all_ins ≡ filter (opcode_is (0x63 ∷ [])) all_ins
branch_rows = refl

-- AMO, but for LR and SC, which have 2 and 3 in bits 31 to 27
pub amo_rows : filter is_amo all_ins ≡ filter (λ ins. opcode_is (0x2f ∷ []) ins && not (value_of ins / 2 ^ 27 == 2) && not (value_of ins / 2 ^ 27 == 3)) all_ins
amo_rows = refl

pub row_counts : map length (filter is_alu all_ins ∷ filter is_amo all_ins ∷ filter is_branch all_ins ∷ []) ≡ 43 ∷ 18 ∷ 6 ∷ []
row_counts = refl
