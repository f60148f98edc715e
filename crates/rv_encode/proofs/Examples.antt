-- Worked examples, computed on the definitions. The words are those that the binutils assembler makes.
use Rattle.std.proofs.Common.{◌≡◌, ℕ, ℤ, pos, negsuc, Option, Some, None, refl}
use Rattle.rv_fields.specs.declared.row_table.Form.TheVariants.{U, J, I, B, S, H6, H5, R, A, L, C, K, V, N}
use Rattle.rv_fields.specs.declared.row_table.Ops.{Ops}
use Rattle.rv_encode.specs.declared.field.Field.{Field}
use Rattle.rv_encode.specs.declared.field.Field.TheVariants.{Rd, Rs1, Imm, AqRl}
use Rattle.rv_encode.specs.declared.field.OutOfField.{OutOfField}
use Rattle.rv_encode.specs.Fitting.{misfit}
use Rattle.rv_encode.specs.Packing.{packed}

-- rd, rs1, rs2, imm and aqrl
abbrev ops : ℕ → ℕ → ℕ → ℤ → ℕ → Ops
ops rd rs1 rs2 imm aqrl = record { rd = rd; rs1 = rs1; rs2 = rs2; imm = imm; aqrl = aqrl }

abbrev told : Field → ℤ → Option OutOfField
told field value = Some (record { field = field; value = value })

-- addi x1,x0,2047 is the last that fits
pub fits_2047 : misfit I (ops 1 0 0 (pos 2047) 0) ≡ None
fits_2047 = refl

pub spells_2047 : packed I 0x13 (ops 1 0 0 (pos 2047) 0) ≡ 0x7ff00093
spells_2047 = refl

pub refuses_2048 : misfit I (ops 1 0 0 (pos 2048) 0) ≡ told Imm (pos 2048)
refuses_2048 = refl

-- bgeu x10,x21,.+2730; no odd offset, and none of 4096
pub spells_branch : packed B 0x7063 (ops 0 10 21 (pos 2730) 0) ≡ 0x2b5575e3
spells_branch = refl

pub refuses_odd_branch : misfit B (ops 0 10 21 (pos 2731) 0) ≡ told Imm (pos 2731)
refuses_odd_branch = refl

pub refuses_far_branch : misfit B (ops 0 10 21 (pos 4096) 0) ≡ told Imm (pos 4096)
refuses_far_branch = refl

-- sd x29,-1366(x30), lui x31,0xaaaaa and jal x10,.-699052
pub spells_store : packed S 0x3023 (ops 0 30 29 (negsuc 1365) 0) ≡ 0xabdf3523
spells_store = refl

pub spells_upper : packed U 0x37 (ops 31 0 0 (negsuc 1431658495) 0) ≡ 0xaaaaafb7
spells_upper = refl

pub spells_jump : packed J 0x6f (ops 10 0 0 (negsuc 699051) 0) ≡ 0xd545556f
spells_jump = refl

-- shifts of a doubleword are by 63 at most, those of a word by 31
pub fits_63 : misfit H6 (ops 1 2 0 (pos 63) 0) ≡ None
fits_63 = refl

pub refuses_64 : misfit H6 (ops 1 2 0 (pos 64) 0) ≡ told Imm (pos 64)
refuses_64 = refl

pub refuses_32 : misfit H5 (ops 1 2 0 (pos 32) 0) ≡ told Imm (pos 32)
refuses_32 = refl

-- amoadd.d.rl x31,x29,(x30) and lr.w.aqrl x21,(x10)
pub spells_atomic : packed A 0x302f (ops 31 30 29 (pos 0) 1) ≡ 0x03df3faf
spells_atomic = refl

pub spells_reserve : packed L 0x1000202f (ops 21 10 0 (pos 0) 3) ≡ 0x16052aaf
spells_reserve = refl

pub refuses_ordering : misfit A (ops 31 30 29 (pos 0) 4) ≡ told AqRl (pos 4)
refuses_ordering = refl

-- the number of a CSR has 12 bits and no sign
pub fits_csr : misfit C (ops 1 2 0 (pos 0xfff) 0) ≡ None
fits_csr = refl

pub refuses_csr : misfit K (ops 1 2 0 (pos 0x1000) 0) ≡ told Imm (pos 0x1000)
refuses_csr = refl

pub refuses_below : misfit C (ops 1 2 0 (negsuc 0) 0) ≡ told Imm (negsuc 0)
refuses_below = refl

-- the first field is told, also where the form lacks it
pub refuses_first : misfit R (ops 1 32 32 (pos 1) 1) ≡ told Rs1 (pos 32)
refuses_first = refl

pub refuses_lacking : misfit V (ops 1 2 3 (pos 0) 0) ≡ told Rd (pos 1)
refuses_lacking = refl

pub refuses_all : misfit N (ops 0 0 0 (pos 0) 1) ≡ told AqRl (pos 1)
refuses_all = refl
