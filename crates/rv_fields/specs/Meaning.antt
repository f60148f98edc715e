-- What instructions compute from their operands. An operation takes two operands of so many bits and gives a
-- whole number. The result is what is left of that number in so many bits.
use Rattle.std.specs.Prelude.{ℕ, ◌+◌, ◌-◌, ◌*◌, ◌/◌, ◌%◌, ◌^◌, min, max, ℤ, pos, negsuc, ◌-ℤ◌, ◌*ℤ◌, int_lt, int_div, int_rem, bit_and, bit_or, bit_xor, nat_lt, Bool, false, not, ◌==◌, if◌then◌else◌, Option, Some, None, is_some, option_map, unwrap_or}
use Rattle.std.specs.Int.{int_div_euclid, int_min, int_max}
use Rattle.rv_fields.specs.declared.row_table.Ins.{Ins}
use Rattle.rv_fields.specs.declared.row_table.Ins.TheVariants.{Lui, Auipc, Addi, Slti, Sltiu, Xori, Ori, Andi, Addiw, Beq, Bne, Blt, Bge, Bltu, Bgeu, Slli, Srli, Srai, Slliw, Srliw, Sraiw, Add, Sub, Sll, Slt, Sltu, Xor, Srl, Sra, Or, And, Addw, Subw, Sllw, Srlw, Sraw, Mul, Mulh, Mulhsu, Mulhu, Div, Divu, Rem, Remu, Mulw, Divw, Divuw, Remw, Remuw, AmoswapW, AmoaddW, AmoxorW, AmoandW, AmoorW, AmominW, AmomaxW, AmominuW, AmomaxuW, AmoswapD, AmoaddD, AmoxorD, AmoandD, AmoorD, AmominD, AmomaxD, AmominuD, AmomaxuD}
use Rattle.rv_fields.specs.declared.row_table.Form.{Form}
use Rattle.rv_fields.specs.declared.row_table.Form.TheVariants.{U, R}
use Rattle.rv_fields.specs.declared.row_table.Ops.{Ops}
use Rattle.rv_fields.specs.Immediate.{signed_of, modulo, wrapped}
use Rattle.rv_fields.specs.RowTable.{form_of}

-- ---- readings of a number of some bits

-- in two's complement
abbrev pub signed : ℕ → ℕ → ℤ
signed bits n = signed_of (2 ^ (bits - 1)) n

-- extended with its sign to the 64 bits of a register
abbrev pub sign_extended : ℕ → ℕ → ℕ
sign_extended bits n = wrapped (signed bits n)

-- ---- operations

-- how many bits the operands have, and the operands
abbrev pub Operation : Type 0
Operation = ℕ → ℕ → ℕ → ℤ

-- the second operand alone
abbrev pub second : Operation
second bits a b = pos b

abbrev pub sum : Operation
sum bits a b = pos (a + b)

abbrev pub difference : Operation
difference bits a b = pos a -ℤ pos b

-- ---- bit by bit

abbrev pub exclusive_or : Operation
exclusive_or bits a b = pos (bit_xor a b)

abbrev pub inclusive_or : Operation
inclusive_or bits a b = pos (bit_or a b)

abbrev pub conjunction : Operation
conjunction bits a b = pos (bit_and a b)

-- ---- shifts, by the low 6 bits of the second operand, or the low 5 where the operands have 32

abbrev pub shift_amount : ℕ → ℕ → ℕ
shift_amount bits b = b % bits

-- a whole number divided by a positive one, rounded down
abbrev pub rounded_down : ℤ → ℕ → ℤ
rounded_down z divisor = int_div_euclid z (pos divisor)

abbrev pub left_shift : Operation
left_shift bits a b = pos (a * 2 ^ shift_amount bits b)

abbrev pub logical_right_shift : Operation
logical_right_shift bits a b = pos (a / 2 ^ shift_amount bits b)

abbrev pub arithmetic_right_shift : Operation
arithmetic_right_shift bits a b = rounded_down (signed bits a) (2 ^ shift_amount bits b)

-- ---- comparisons, which give 1 where they hold and else 0

abbrev pub is_less : ℕ → ℕ → ℕ → Bool
is_less bits a b = int_lt (signed bits a) (signed bits b)

abbrev pub is_less_unsigned : ℕ → ℕ → ℕ → Bool
is_less_unsigned bits a b = nat_lt a b

abbrev pub set_if : (ℕ → ℕ → ℕ → Bool) → Operation
set_if holds bits a b = if holds bits a b then pos 1 else pos 0

-- ---- products, and what stands above their low bits

abbrev pub product : Operation
product bits a b = pos (a * b)

abbrev pub upper_part : ℕ → ℤ → ℤ
upper_part bits z = rounded_down z (2 ^ bits)

abbrev pub upper_product : Operation
upper_product bits a b = upper_part bits (signed bits a *ℤ signed bits b)

abbrev pub upper_product_unsigned : Operation
upper_product_unsigned bits a b = upper_part bits (pos a *ℤ pos b)

abbrev pub upper_product_signed_unsigned : Operation
upper_product_signed_unsigned bits a b = upper_part bits (signed bits a *ℤ pos b)

-- ---- division, rounding towards zero; by zero the quotient is -1, all of whose bits are 1, and the remainder
-- is the dividend

abbrev pub quotient : Operation
quotient bits a b = if b == 0 then negsuc 0 else int_div (signed bits a) (signed bits b)

abbrev pub quotient_unsigned : Operation
quotient_unsigned bits a b = if b == 0 then negsuc 0 else pos (a / b)

abbrev pub remainder : Operation
remainder bits a b = if b == 0 then signed bits a else int_rem (signed bits a) (signed bits b)

abbrev pub remainder_unsigned : Operation
remainder_unsigned bits a b = if b == 0 then pos a else pos (a % b)

-- ---- the least and the greatest

abbrev pub least : Operation
least bits a b = int_min (signed bits a) (signed bits b)

abbrev pub greatest : Operation
greatest bits a b = int_max (signed bits a) (signed bits b)

abbrev pub least_unsigned : Operation
least_unsigned bits a b = pos (min a b)

abbrev pub greatest_unsigned : Operation
greatest_unsigned bits a b = pos (max a b)

-- ---- results

-- an operation, and how many bits its operands and its result have
pub record Computation : Type 0 where
  pub bits : ℕ
  pub operation : Operation

abbrev doubleword : Operation → Option Computation
doubleword operation = Some (record { bits = 64; operation = operation })

abbrev word : Operation → Option Computation
word operation = Some (record { bits = 32; operation = operation })

-- the result for two registers, of which the low bits are the operands
abbrev pub result_of : Computation → ℕ → ℕ → ℕ
result_of c a b = modulo (2 ^ c.bits) (c.operation c.bits (a % 2 ^ c.bits) (b % 2 ^ c.bits))

-- ---- rows whose rd is computed from their operands alone

-- what the row computes; none where it is no such row
abbrev pub alu_computation : Ins → Option Computation
alu_computation Lui = doubleword second
alu_computation Auipc = doubleword sum
alu_computation Addi = doubleword sum
alu_computation Slti = doubleword (set_if is_less)
alu_computation Sltiu = doubleword (set_if is_less_unsigned)
alu_computation Xori = doubleword exclusive_or
alu_computation Ori = doubleword inclusive_or
alu_computation Andi = doubleword conjunction
alu_computation Addiw = word sum
alu_computation Slli = doubleword left_shift
alu_computation Srli = doubleword logical_right_shift
alu_computation Srai = doubleword arithmetic_right_shift
alu_computation Slliw = word left_shift
alu_computation Srliw = word logical_right_shift
alu_computation Sraiw = word arithmetic_right_shift
alu_computation Add = doubleword sum
alu_computation Sub = doubleword difference
alu_computation Sll = doubleword left_shift
alu_computation Slt = doubleword (set_if is_less)
alu_computation Sltu = doubleword (set_if is_less_unsigned)
alu_computation Xor = doubleword exclusive_or
alu_computation Srl = doubleword logical_right_shift
alu_computation Sra = doubleword arithmetic_right_shift
alu_computation Or = doubleword inclusive_or
alu_computation And = doubleword conjunction
alu_computation Addw = word sum
alu_computation Subw = word difference
alu_computation Sllw = word left_shift
alu_computation Srlw = word logical_right_shift
alu_computation Sraw = word arithmetic_right_shift
alu_computation Mul = doubleword product
alu_computation Mulh = doubleword upper_product
alu_computation Mulhsu = doubleword upper_product_signed_unsigned
alu_computation Mulhu = doubleword upper_product_unsigned
alu_computation Div = doubleword quotient
alu_computation Divu = doubleword quotient_unsigned
alu_computation Rem = doubleword remainder
alu_computation Remu = doubleword remainder_unsigned
alu_computation Mulw = word product
alu_computation Divw = word quotient
alu_computation Divuw = word quotient_unsigned
alu_computation Remw = word remainder
alu_computation Remuw = word remainder_unsigned
alu_computation _ = None

abbrev pub is_alu : Ins → Bool
is_alu ins = is_some (alu_computation ins)

-- What is given to rd: the result, extended with its sign. Other rows aren't asked, and have 0.
abbrev pub alu_of : Ins → ℕ → ℕ → ℕ
alu_of ins a b = unwrap_or (option_map (λ c. sign_extended c.bits (result_of c a b)) (alu_computation ins)) 0

-- The operands by the row's form. The first is pc in form U, of which auipc alone reads it, and rs1 in all
-- others. The second is rs2 in form R, and in all others the immediate modulo 2^64.
abbrev pub first_operand : Form → ℕ → ℕ → ℕ
first_operand U pc rs1 = pc
first_operand _ pc rs1 = rs1

abbrev pub second_operand : Form → Ops → ℕ → ℕ
second_operand R ops rs2 = rs2
second_operand _ ops rs2 = wrapped ops.imm

-- the value that such a row at pc gives to its rd, where its source registers hold these values
abbrev pub computed : Ins → Ops → ℕ → ℕ → ℕ → ℕ
computed ins ops pc rs1 rs2 = alu_of ins (first_operand (form_of ins) pc rs1) (second_operand (form_of ins) ops rs2)

-- ---- rows that read memory and write it again (AMO)

-- what makes the number that is written, of the number read and of rs2; none where it is no such row
abbrev pub amo_computation : Ins → Option Computation
amo_computation AmoswapW = word second
amo_computation AmoaddW = word sum
amo_computation AmoxorW = word exclusive_or
amo_computation AmoandW = word conjunction
amo_computation AmoorW = word inclusive_or
amo_computation AmominW = word least
amo_computation AmomaxW = word greatest
amo_computation AmominuW = word least_unsigned
amo_computation AmomaxuW = word greatest_unsigned
amo_computation AmoswapD = doubleword second
amo_computation AmoaddD = doubleword sum
amo_computation AmoxorD = doubleword exclusive_or
amo_computation AmoandD = doubleword conjunction
amo_computation AmoorD = doubleword inclusive_or
amo_computation AmominD = doubleword least
amo_computation AmomaxD = doubleword greatest
amo_computation AmominuD = doubleword least_unsigned
amo_computation AmomaxuD = doubleword greatest_unsigned
amo_computation _ = None

abbrev pub is_amo : Ins → Bool
is_amo ins = is_some (amo_computation ins)

-- The number that is written. Other rows aren't asked, and have 0.
abbrev pub amo_of : Ins → ℕ → ℕ → ℕ
amo_of ins old operand = unwrap_or (option_map (λ c. result_of c old operand) (amo_computation ins)) 0

-- ---- branches

-- when the branch is taken, by the values of rs1 and rs2; none where it is no branch
abbrev pub branch_condition : Ins → Option (ℕ → ℕ → Bool)
branch_condition Beq = Some (λ a b. a == b)
branch_condition Bne = Some (λ a b. not (a == b))
branch_condition Blt = Some (λ a b. is_less 64 a b)
branch_condition Bge = Some (λ a b. not (is_less 64 a b))
branch_condition Bltu = Some (λ a b. is_less_unsigned 64 a b)
branch_condition Bgeu = Some (λ a b. not (is_less_unsigned 64 a b))
branch_condition _ = None

abbrev pub is_branch : Ins → Bool
is_branch ins = is_some (branch_condition ins)

-- The branch is taken. Other rows aren't asked, and have false.
abbrev pub is_taken : Ins → ℕ → ℕ → Bool
is_taken ins a b = unwrap_or (option_map (λ test. test a b) (branch_condition ins)) false
