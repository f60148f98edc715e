-- Worked examples, computed on the definitions. The first word is `addi x1,x0,5`.
use Rattle.std.proofs.Common.{ℕ, ℤ, pos, negsuc, ◌≡◌, refl, true, false, ◌&&◌, ◌||◌, [], codes, Option, Some, None}
use Rattle.rv_fields.specs.declared.row_table.Ins.{Ins}
use Rattle.rv_fields.specs.declared.row_table.Ins.TheVariants.{Auipc, Addi, Bgeu, Sd, Slli, Sraiw, Sub, AmoaddD, LrW, Csrrw, Csrrsi, SfenceVma, Mret}
use Rattle.rv_fields.specs.Immediate.{imm_i, imm_j, fits_i, fits_b, fits_u, fits_j, put_imm_i, put_imm_s, put_imm_b, put_imm_u, put_imm_j}
use Rattle.rv_fields.specs.Name.{is_name}
use Rattle.rv_fields.specs.Decode.{Decoded, decoded, ins_at}

-- an instruction with rd, rs1, rs2, imm and aqrl
abbrev told_as : Ins → ℕ → ℕ → ℕ → ℤ → ℕ → Option Decoded
told_as ins rd rs1 rs2 imm aqrl = Some (record { ins = ins; ops = record { rd = rd; rs1 = rs1; rs2 = rs2; imm = imm; aqrl = aqrl } })

-- the word decodes to addi with rd 1, rs1 0 and immediate 5
pub decodes : decoded 0x00500093 ≡ told_as Addi 1 0 0 (pos 5) 0
unfolding ins_at
decodes = refl

-- words that the binutils assembler made, one of each form: auipc x21,0x80000
pub decodes_u : decoded 0x80000a97 ≡ told_as Auipc 21 0 0 (negsuc 0x7fffffff) 0
unfolding ins_at
decodes_u = refl

-- jal x10,.-699052
pub decodes_j : imm_j 0xd545556f ≡ negsuc 699051
decodes_j = refl

-- bgeu x10,x21,.+2730
pub decodes_b : decoded 0x2b5575e3 ≡ told_as Bgeu 0 10 21 (pos 2730) 0
unfolding ins_at
decodes_b = refl

-- sd x29,-1366(x30)
pub decodes_s : decoded 0xabdf3523 ≡ told_as Sd 0 30 29 (negsuc 1365) 0
unfolding ins_at
decodes_s = refl

-- slli x10,x21,63
pub decodes_h6 : decoded 0x03fa9513 ≡ told_as Slli 10 21 0 (pos 63) 0
unfolding ins_at
decodes_h6 = refl

-- sraiw x10,x21,31
pub decodes_h5 : decoded 0x41fad51b ≡ told_as Sraiw 10 21 0 (pos 31) 0
unfolding ins_at
decodes_h5 = refl

-- sub x31,x30,x29
pub decodes_r : decoded 0x41df0fb3 ≡ told_as Sub 31 30 29 (pos 0) 0
unfolding ins_at
decodes_r = refl

-- amoadd.d.rl x31,x29,(x30)
pub decodes_a : decoded 0x03df3faf ≡ told_as AmoaddD 31 30 29 (pos 0) 1
unfolding ins_at
decodes_a = refl

-- lr.w.aqrl x21,(x10)
pub decodes_l : decoded 0x16052aaf ≡ told_as LrW 21 10 0 (pos 0) 3
unfolding ins_at
decodes_l = refl

-- csrrw x31,mscratch,x30
pub decodes_c : decoded 0x340f1ff3 ≡ told_as Csrrw 31 30 0 (pos 0x340) 0
unfolding ins_at
decodes_c = refl

-- csrrsi x31,mscratch,30
pub decodes_k : decoded 0x340f6ff3 ≡ told_as Csrrsi 31 30 0 (pos 0x340) 0
unfolding ins_at
decodes_k = refl

-- sfence.vma x2,x3
pub decodes_v : decoded 0x12310073 ≡ told_as SfenceVma 0 2 3 (pos 0) 0
unfolding ins_at
decodes_v = refl

pub decodes_n : decoded 0x30200073 ≡ told_as Mret 0 0 0 (pos 0) 0
unfolding ins_at
decodes_n = refl

-- a jump back by 4, one on by 4092, and the greatest and the least jump
pub jumps_back : imm_j 0xffdff06f ≡ negsuc 3
jumps_back = refl

pub jumps_on : imm_j 0x7fd0006f ≡ pos 4092
jumps_on = refl

pub greatest_jump : imm_j 0x7ffff06f ≡ pos 0xffffe
greatest_jump = refl

pub least_jump : imm_j 0x8000006f ≡ negsuc 0xfffff
least_jump = refl

-- the greatest and the least immediate of addi
pub greatest : imm_i 0x7ff00093 ≡ pos 2047
greatest = refl

pub least : imm_i 0x80000093 ≡ negsuc 2047
least = refl

-- what the forms can hold, at the edges
pub fits_greatest : fits_i (pos 2047) && fits_j (pos 0xffffe) ≡ true
fits_greatest = refl

pub fits_least : fits_i (negsuc 2047) && fits_j (negsuc 0xfffff) ≡ true
fits_least = refl

pub too_great : fits_i (pos 2048) || fits_j (pos 0x100000) ≡ false
too_great = refl

pub too_small : fits_i (negsuc 2048) || fits_j (negsuc 0x100001) ≡ false
too_small = refl

pub odd : fits_j (pos 1) || fits_j (negsuc 0) ≡ false
odd = refl

-- U holds multiples of 4096, and B even numbers
pub fits_edges : fits_u (pos 0x7ffff000) && fits_u (negsuc 0x7fffffff) && fits_b (pos 4094) && fits_b (negsuc 4095) ≡ true
fits_edges = refl

pub fits_no_other : fits_u (pos 0x80000000) || fits_u (negsuc 0x80000fff) || fits_u (pos 0x800) || fits_b (pos 4096) || fits_b (negsuc 4097) || fits_b (pos 3) ≡ false
fits_no_other = refl

-- a word with another immediate
pub put_least : put_imm_i 0x00500093 (negsuc 2047) ≡ 0x80000093
put_least = refl

pub put_least_jump : put_imm_j 0x7fd0006f (negsuc 0xfffff) ≡ 0x8000006f
put_least_jump = refl

pub put_back : put_imm_j 0x6f (negsuc 3) ≡ 0xffdff06f
put_back = refl

pub put_store : put_imm_s 0x01df3023 (negsuc 1365) ≡ 0xabdf3523
put_store = refl

pub put_branch : put_imm_b 0x01557063 (pos 2730) ≡ 0x2b5575e3
put_branch = refl

pub put_upper : put_imm_u 0x00000a97 (negsuc 0x7fffffff) ≡ 0x80000a97
put_upper = refl

-- no row, also where the opcode is that of addi, and where the shift's high bits are of no row
pub no_row : decoded 0 ≡ None
unfolding ins_at
no_row = refl

pub no_row_of_slli : decoded 0x04001013 ≡ None
unfolding ins_at
no_row_of_slli = refl

-- LR with rs2 not 0, and mret with a register
pub no_row_of_lr : decoded 0x10152aaf ≡ None
unfolding ins_at
no_row_of_lr = refl

pub no_row_of_mret : decoded 0x302000f3 ≡ None
unfolding ins_at
no_row_of_mret = refl

-- names
pub shortest_name : is_name (codes "a") && is_name (codes "sfence.vma") && is_name (codes "_09z") ≡ true
shortest_name = refl

pub no_names : is_name [] || is_name (codes "Add") || is_name (codes "a b") || is_name (codes "abcdefghijklmnopqrstuvwxy") ≡ false
no_names = refl
