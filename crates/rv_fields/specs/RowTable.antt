-- The instruction table: each row is an instruction with its name, its form, the mask of the bits that tell
-- it from the others, and the value of these bits.
use Rattle.std.specs.Prelude.{ℕ, ◌≡◌, List, [], ◌∷◌, codes, bit_and, Option, find}
use Rattle.std.specs.Str.{bytes_eq}
use Rattle.rv_fields.specs.declared.row_table.Ins.{Ins}
use Rattle.rv_fields.specs.declared.row_table.Ins.TheVariants.{Lui, Auipc, Jal, Jalr, Lb, Lh, Lw, Ld, Lbu, Lhu, Lwu, Addi, Slti, Sltiu, Xori, Ori, Andi, Addiw, Fence, Beq, Bne, Blt, Bge, Bltu, Bgeu, Sb, Sh, Sw, Sd, Slli, Srli, Srai, Slliw, Srliw, Sraiw, Add, Sub, Sll, Slt, Sltu, Xor, Srl, Sra, Or, And, Addw, Subw, Sllw, Srlw, Sraw, Mul, Mulh, Mulhsu, Mulhu, Div, Divu, Rem, Remu, Mulw, Divw, Divuw, Remw, Remuw, ScW, AmoswapW, AmoaddW, AmoxorW, AmoandW, AmoorW, AmominW, AmomaxW, AmominuW, AmomaxuW, ScD, AmoswapD, AmoaddD, AmoxorD, AmoandD, AmoorD, AmominD, AmomaxD, AmominuD, AmomaxuD, LrW, LrD, Csrrw, Csrrs, Csrrc, Csrrwi, Csrrsi, Csrrci, SfenceVma, Ecall, Ebreak, Sret, Mret}
use Rattle.rv_fields.specs.declared.row_table.Form.{Form}
use Rattle.rv_fields.specs.declared.row_table.Form.TheVariants.{U, J, I, B, S, H6, H5, R, A, L, C, K, V, N}

-- the rows in the table's order
abbrev pub all_ins : List Ins
all_ins = Lui ∷ Auipc ∷ Jal ∷ Jalr ∷ Lb ∷ Lh ∷ Lw ∷ Ld ∷ Lbu ∷ Lhu ∷ Lwu ∷ Addi ∷ Slti ∷ Sltiu ∷ Xori ∷ Ori ∷ Andi ∷ Addiw ∷ Fence ∷ Beq ∷ Bne ∷ Blt ∷ Bge ∷ Bltu ∷ Bgeu ∷ Sb ∷ Sh ∷ Sw ∷ Sd ∷ Slli ∷ Srli ∷ Srai ∷ Slliw ∷ Srliw ∷ Sraiw ∷ Add ∷ Sub ∷ Sll ∷ Slt ∷ Sltu ∷ Xor ∷ Srl ∷ Sra ∷ Or ∷ And ∷ Addw ∷ Subw ∷ Sllw ∷ Srlw ∷ Sraw ∷ Mul ∷ Mulh ∷ Mulhsu ∷ Mulhu ∷ Div ∷ Divu ∷ Rem ∷ Remu ∷ Mulw ∷ Divw ∷ Divuw ∷ Remw ∷ Remuw ∷ ScW ∷ AmoswapW ∷ AmoaddW ∷ AmoxorW ∷ AmoandW ∷ AmoorW ∷ AmominW ∷ AmomaxW ∷ AmominuW ∷ AmomaxuW ∷ ScD ∷ AmoswapD ∷ AmoaddD ∷ AmoxorD ∷ AmoandD ∷ AmoorD ∷ AmominD ∷ AmomaxD ∷ AmominuD ∷ AmomaxuD ∷ LrW ∷ LrD ∷ Csrrw ∷ Csrrs ∷ Csrrc ∷ Csrrwi ∷ Csrrsi ∷ Csrrci ∷ SfenceVma ∷ Ecall ∷ Ebreak ∷ Sret ∷ Mret ∷ []

pub record Row : Type 0 where
  pub name : List ℕ
  pub form : Form
  pub value : ℕ

abbrev row : List ℕ → Form → ℕ → Row
row name form value = record { name = name; form = form; value = value }

abbrev pub row_of : Ins → Row
row_of Lui = row (codes "lui") U 0x37
row_of Auipc = row (codes "auipc") U 0x17
row_of Jal = row (codes "jal") J 0x6f
row_of Jalr = row (codes "jalr") I 0x67
row_of Lb = row (codes "lb") I 0x3
row_of Lh = row (codes "lh") I 0x1003
row_of Lw = row (codes "lw") I 0x2003
row_of Ld = row (codes "ld") I 0x3003
row_of Lbu = row (codes "lbu") I 0x4003
row_of Lhu = row (codes "lhu") I 0x5003
row_of Lwu = row (codes "lwu") I 0x6003
row_of Addi = row (codes "addi") I 0x13
row_of Slti = row (codes "slti") I 0x2013
row_of Sltiu = row (codes "sltiu") I 0x3013
row_of Xori = row (codes "xori") I 0x4013
row_of Ori = row (codes "ori") I 0x6013
row_of Andi = row (codes "andi") I 0x7013
row_of Addiw = row (codes "addiw") I 0x1b
row_of Fence = row (codes "fence") I 0xf
row_of Beq = row (codes "beq") B 0x63
row_of Bne = row (codes "bne") B 0x1063
row_of Blt = row (codes "blt") B 0x4063
row_of Bge = row (codes "bge") B 0x5063
row_of Bltu = row (codes "bltu") B 0x6063
row_of Bgeu = row (codes "bgeu") B 0x7063
row_of Sb = row (codes "sb") S 0x23
row_of Sh = row (codes "sh") S 0x1023
row_of Sw = row (codes "sw") S 0x2023
row_of Sd = row (codes "sd") S 0x3023
row_of Slli = row (codes "slli") H6 0x1013
row_of Srli = row (codes "srli") H6 0x5013
row_of Srai = row (codes "srai") H6 0x40005013
row_of Slliw = row (codes "slliw") H5 0x101b
row_of Srliw = row (codes "srliw") H5 0x501b
row_of Sraiw = row (codes "sraiw") H5 0x4000501b
row_of Add = row (codes "add") R 0x33
row_of Sub = row (codes "sub") R 0x40000033
row_of Sll = row (codes "sll") R 0x1033
row_of Slt = row (codes "slt") R 0x2033
row_of Sltu = row (codes "sltu") R 0x3033
row_of Xor = row (codes "xor") R 0x4033
row_of Srl = row (codes "srl") R 0x5033
row_of Sra = row (codes "sra") R 0x40005033
row_of Or = row (codes "or") R 0x6033
row_of And = row (codes "and") R 0x7033
row_of Addw = row (codes "addw") R 0x3b
row_of Subw = row (codes "subw") R 0x4000003b
row_of Sllw = row (codes "sllw") R 0x103b
row_of Srlw = row (codes "srlw") R 0x503b
row_of Sraw = row (codes "sraw") R 0x4000503b
row_of Mul = row (codes "mul") R 0x2000033
row_of Mulh = row (codes "mulh") R 0x2001033
row_of Mulhsu = row (codes "mulhsu") R 0x2002033
row_of Mulhu = row (codes "mulhu") R 0x2003033
row_of Div = row (codes "div") R 0x2004033
row_of Divu = row (codes "divu") R 0x2005033
row_of Rem = row (codes "rem") R 0x2006033
row_of Remu = row (codes "remu") R 0x2007033
row_of Mulw = row (codes "mulw") R 0x200003b
row_of Divw = row (codes "divw") R 0x200403b
row_of Divuw = row (codes "divuw") R 0x200503b
row_of Remw = row (codes "remw") R 0x200603b
row_of Remuw = row (codes "remuw") R 0x200703b
row_of ScW = row (codes "sc.w") A 0x1800202f
row_of AmoswapW = row (codes "amoswap.w") A 0x800202f
row_of AmoaddW = row (codes "amoadd.w") A 0x202f
row_of AmoxorW = row (codes "amoxor.w") A 0x2000202f
row_of AmoandW = row (codes "amoand.w") A 0x6000202f
row_of AmoorW = row (codes "amoor.w") A 0x4000202f
row_of AmominW = row (codes "amomin.w") A 0x8000202f
row_of AmomaxW = row (codes "amomax.w") A 0xa000202f
row_of AmominuW = row (codes "amominu.w") A 0xc000202f
row_of AmomaxuW = row (codes "amomaxu.w") A 0xe000202f
row_of ScD = row (codes "sc.d") A 0x1800302f
row_of AmoswapD = row (codes "amoswap.d") A 0x800302f
row_of AmoaddD = row (codes "amoadd.d") A 0x302f
row_of AmoxorD = row (codes "amoxor.d") A 0x2000302f
row_of AmoandD = row (codes "amoand.d") A 0x6000302f
row_of AmoorD = row (codes "amoor.d") A 0x4000302f
row_of AmominD = row (codes "amomin.d") A 0x8000302f
row_of AmomaxD = row (codes "amomax.d") A 0xa000302f
row_of AmominuD = row (codes "amominu.d") A 0xc000302f
row_of AmomaxuD = row (codes "amomaxu.d") A 0xe000302f
row_of LrW = row (codes "lr.w") L 0x1000202f
row_of LrD = row (codes "lr.d") L 0x1000302f
row_of Csrrw = row (codes "csrrw") C 0x1073
row_of Csrrs = row (codes "csrrs") C 0x2073
row_of Csrrc = row (codes "csrrc") C 0x3073
row_of Csrrwi = row (codes "csrrwi") K 0x5073
row_of Csrrsi = row (codes "csrrsi") K 0x6073
row_of Csrrci = row (codes "csrrci") K 0x7073
row_of SfenceVma = row (codes "sfence.vma") V 0x12000073
row_of Ecall = row (codes "ecall") N 0x73
row_of Ebreak = row (codes "ebreak") N 0x100073
row_of Sret = row (codes "sret") N 0x10200073
row_of Mret = row (codes "mret") N 0x30200073

abbrev pub name_of : Ins → List ℕ
name_of ins = (row_of ins).name

-- the instruction of the name; none where no row has it
abbrev pub ins_called : List ℕ → Option Ins
ins_called name = find (λ ins. bytes_eq (name_of ins) name) all_ins

abbrev pub form_of : Ins → Form
form_of ins = (row_of ins).form

abbrev pub value_of : Ins → ℕ
value_of ins = (row_of ins).value

abbrev pub mask_of : Form → ℕ
mask_of U = 0x7f
mask_of J = 0x7f
mask_of I = 0x707f
mask_of B = 0x707f
mask_of S = 0x707f
mask_of H6 = 0xfc00707f
mask_of H5 = 0xfe00707f
mask_of R = 0xfe00707f
mask_of A = 0xf800707f
mask_of L = 0xf9f0707f
mask_of C = 0x707f
mask_of K = 0x707f
mask_of V = 0xfe007fff
mask_of N = 0xffffffff

-- the word is of the instruction's row
abbrev pub Agrees : ℕ → Ins → Type 0
Agrees word ins = bit_and word (mask_of (form_of ins)) ≡ value_of ins
