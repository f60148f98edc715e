-- Laws of what instructions compute.
use Rattle.std.proofs.Common.{◌≡◌, ℕ, suc, ◌+◌, ◌-◌, ◌*◌, ◌/◌, ◌%◌, ◌^◌, ◌<◌, false, ◌==◌, ℤ, pos, negsuc, ◌+ℤ◌, ◌*ℤ◌, Option, Some, None, option_map, unwrap_or, IfSome, unsigned_abs, sym, ap, ◌∙◌, refl, arith, lit<, pow_pos, mod-lt, mod-eq_of_lt, div-add-mod'}
use Rattle.std.specs.Int.{int_rem_euclid}
use Rattle.std.proofs.lemmas.Bool.Decides.{nat_tests}
use Rattle.std.proofs.lemmas.Int.{ints, quot-rem, int_rem_euclid_is}
use Rattle.rv_fields.specs.declared.row_table.Ins.{Ins}
use Rattle.rv_fields.specs.declared.row_table.Ins.TheVariants.{Addi}
use Rattle.rv_fields.specs.declared.row_table.Ops.{Ops}
use Rattle.rv_fields.specs.Immediate.{modulo, wrapped}
use Rattle.rv_fields.specs.Meaning.{Computation, Operation, alu_computation, amo_computation, result_of, alu_of, amo_of, computed, sum, sign_extended, signed, rounded_down, upper_part, quotient, remainder}

-- ---- results fit

pub modulo_below : (size : ℕ) (z : ℤ) → 0 < size → modulo size z < size
modulo_below size (pos n) h = mod-lt n h
modulo_below size (negsuc n) h = omega arith

pub result_below : (c : Computation) (a b : ℕ) → result_of c a b < 2 ^ c.bits
result_below c a b = modulo_below (2 ^ c.bits) (c.operation c.bits (a % 2 ^ c.bits) (b % 2 ^ c.bits)) (pow_pos c.bits)

computed_below : (c : Option Computation) (a b : ℕ) → unwrap_or (option_map (λ c. sign_extended c.bits (result_of c a b)) c) 0 < 2 ^ 64
computed_below (Some c) a b = modulo_below (2 ^ 64) (signed c.bits (result_of c a b)) (lit< tt)
computed_below None a b = lit< tt

-- the value of rd is below 2^64
pub alu_below : (ins : Ins) (a b : ℕ) → alu_of ins a b < 2 ^ 64
alu_below ins a b = computed_below (alu_computation ins) a b

written_below : (c : Option Computation) (a b : ℕ) → IfSome c (λ d. unwrap_or (option_map (λ c. result_of c a b) c) 0 < 2 ^ d.bits)
written_below (Some c) a b = result_below c a b
written_below None a b = tt

-- what an AMO writes is of the row's width
pub amo_below : (ins : Ins) (old operand : ℕ) → IfSome (amo_computation ins) (λ c. amo_of ins old operand < 2 ^ c.bits)
amo_below ins old operand = written_below (amo_computation ins) old operand

-- ---- rows of 64 bits need no extension

pub doubleword_extended : (n : ℕ) → n < 2 ^ 64 → sign_extended 64 n ≡ n
doubleword_extended n h = grind (arith, nat_tests)

pub doubleword_result : (operation : Operation) (a b : ℕ) → a < 2 ^ 64 → b < 2 ^ 64
    → sign_extended 64 (result_of (record { bits = 64; operation = operation }) a b) ≡ wrapped (operation 64 a b)
doubleword_result operation a b p q =
    doubleword_extended _ (result_below (record { bits = 64; operation = operation }) a b)
    ∙ (λ i. wrapped (operation 64 (mod-eq_of_lt p i) (mod-eq_of_lt q i)))

-- ---- quotients

-- what rounding down leaves
pub rounds_down : (z : ℤ) (d : ℕ) → 0 < d → rounded_down z d *ℤ pos d +ℤ pos (modulo d z) ≡ z
rounds_down (pos n) d h = omega (arith, ints, div-add-mod' n d)
rounds_down (negsuc n) d h =
    let small : n % d < d = mod-lt n h in
    omega (arith, ints, div-add-mod' n d)

-- the two halves of a product make the whole
pub halves : (bits : ℕ) (z : ℤ) → upper_part bits z *ℤ pos (2 ^ bits) +ℤ pos (modulo (2 ^ bits) z) ≡ z
halves bits z = rounds_down z (2 ^ bits) (pow_pos bits)

pub quotient_and_remainder : (bits a b : ℕ) → b == 0 ≡ false → quotient bits a b *ℤ signed bits b +ℤ remainder bits a b ≡ signed bits a
quotient_and_remainder bits a b h = rw h (quot-rem (signed bits a) (signed bits b))

-- ---- immediates

modulo-rem_euclid : (size : ℕ) (z : ℤ) → int_rem_euclid z (pos size) ≡ pos (modulo size z)
modulo-rem_euclid size (pos n) = refl
modulo-rem_euclid size (negsuc n) = omega (arith, ints)

-- an immediate may be added as it is or as the number that stands for it
pub adds_immediate : (a : ℕ) (z : ℤ) → wrapped (pos (a + wrapped z)) ≡ wrapped (pos a +ℤ z)
adds_immediate a (pos n) = omega arith
adds_immediate a (negsuc n) =
    let k = n / 2 ^ 64 + 1 in
    let m = a + (2 ^ 64 - suc (n % 2 ^ 64)) in
    let z : ℤ = pos a +ℤ negsuc n in
    let sum : z +ℤ pos (k * 2 ^ 64) ≡ pos m = omega (arith, ints) in
    ap unsigned_abs (sym (int_rem_euclid_is z (pos (2 ^ 64)) (2 ^ 64) k m (lit< tt) refl sum) ∙ modulo-rem_euclid (2 ^ 64) z)

pub addi_adds : (ops : Ops) (pc rs1 rs2 : ℕ) → rs1 < 2 ^ 64 → computed Addi ops pc rs1 rs2 ≡ wrapped (pos rs1 +ℤ ops.imm)
addi_adds ops pc rs1 rs2 small =
    let imm_small : wrapped ops.imm < 2 ^ 64 = modulo_below (2 ^ 64) ops.imm (lit< tt) in
    doubleword_result sum rs1 (wrapped ops.imm) small imm_small ∙ adds_immediate rs1 ops.imm
