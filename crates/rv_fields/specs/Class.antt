-- What each row of the instruction table does: the rows of one class have one meaning, but for what they compute.
use Rattle.std.specs.Prelude.{ℕ, Bool, true, false, Option, Some, None, option_map}
use Rattle.std.specs.Option.{option_map_or}
use Rattle.rv_fields.specs.declared.access.AccessKind.{AccessKind}
use Rattle.rv_fields.specs.declared.access.AccessKind.TheVariants.{Load, Store, Lr, Sc, Amo}
use Rattle.rv_fields.specs.declared.class.Class.{Class}
use Rattle.rv_fields.specs.declared.class.Class.TheVariants.{Computes, Branches, Jumps, JumpsByRegister, Accesses, ChangesCsr, Fences, FencesTranslation, CallsEnvironment, Breaks, ReturnsFromM, ReturnsFromS}
use Rattle.rv_fields.specs.declared.class.Extension.{Extension}
use Rattle.rv_fields.specs.declared.class.Extension.TheVariants.{Sign, Zeros}
use Rattle.rv_fields.specs.declared.class.CsrChange.TheVariants.{Swap, Set, Clear}
use Rattle.rv_fields.specs.declared.row_table.Ins.{Ins}
use Rattle.rv_fields.specs.declared.row_table.Ins.TheVariants.{Lui, Auipc, Jal, Jalr, Lb, Lh, Lw, Ld, Lbu, Lhu, Lwu, Addi, Slti, Sltiu, Xori, Ori, Andi, Addiw, Fence, Beq, Bne, Blt, Bge, Bltu, Bgeu, Sb, Sh, Sw, Sd, Slli, Srli, Srai, Slliw, Srliw, Sraiw, Add, Sub, Sll, Slt, Sltu, Xor, Srl, Sra, Or, And, Addw, Subw, Sllw, Srlw, Sraw, Mul, Mulh, Mulhsu, Mulhu, Div, Divu, Rem, Remu, Mulw, Divw, Divuw, Remw, Remuw, ScW, AmoswapW, AmoaddW, AmoxorW, AmoandW, AmoorW, AmominW, AmomaxW, AmominuW, AmomaxuW, ScD, AmoswapD, AmoaddD, AmoxorD, AmoandD, AmoorD, AmominD, AmomaxD, AmominuD, AmomaxuD, LrW, LrD, Csrrw, Csrrs, Csrrc, Csrrwi, Csrrsi, Csrrci, SfenceVma, Ecall, Ebreak, Sret, Mret}

-- the number of bytes, and what stands before the number in rd
abbrev loads : ℕ → Extension → Class
loads size extended = Accesses Load size extended

-- SC gives a number that needs no sign, and a store gives none
abbrev stores : ℕ → Class
stores size = Accesses Store size Zeros

abbrev reserves : ℕ → Class
reserves size = Accesses Lr size Sign

abbrev stores_if_reserved : ℕ → Class
stores_if_reserved size = Accesses Sc size Zeros

abbrev updates : ℕ → Class
updates size = Accesses Amo size Sign

-- what the instructions of a class do to memory, and to how many bytes of it; none where they access no memory
abbrev pub access_in : Class → Option (AccessKind × ℕ)
access_in Computes = None
access_in Branches = None
access_in Jumps = None
access_in JumpsByRegister = None
access_in (Accesses kind size extended) = Some (kind, size)
access_in (ChangesCsr change) = None
access_in Fences = None
access_in FencesTranslation = None
access_in CallsEnvironment = None
access_in Breaks = None
access_in ReturnsFromM = None
access_in ReturnsFromS = None

-- whether the instructions of a class do no more than to give rd a value
abbrev pub is_computing : Class → Bool
is_computing Computes = true
is_computing Branches = false
is_computing Jumps = false
is_computing JumpsByRegister = false
is_computing (Accesses kind size extended) = false
is_computing (ChangesCsr change) = false
is_computing Fences = false
is_computing FencesTranslation = false
is_computing CallsEnvironment = false
is_computing Breaks = false
is_computing ReturnsFromM = false
is_computing ReturnsFromS = false

-- every row by its name, in the table's order
abbrev pub class_of : Ins → Class
class_of Lui = Computes
class_of Auipc = Computes
class_of Jal = Jumps
class_of Jalr = JumpsByRegister
class_of Lb = loads 1 Sign
class_of Lh = loads 2 Sign
class_of Lw = loads 4 Sign
class_of Ld = loads 8 Sign
class_of Lbu = loads 1 Zeros
class_of Lhu = loads 2 Zeros
class_of Lwu = loads 4 Zeros
class_of Addi = Computes
class_of Slti = Computes
class_of Sltiu = Computes
class_of Xori = Computes
class_of Ori = Computes
class_of Andi = Computes
class_of Addiw = Computes
class_of Fence = Fences
class_of Beq = Branches
class_of Bne = Branches
class_of Blt = Branches
class_of Bge = Branches
class_of Bltu = Branches
class_of Bgeu = Branches
class_of Sb = stores 1
class_of Sh = stores 2
class_of Sw = stores 4
class_of Sd = stores 8
class_of Slli = Computes
class_of Srli = Computes
class_of Srai = Computes
class_of Slliw = Computes
class_of Srliw = Computes
class_of Sraiw = Computes
class_of Add = Computes
class_of Sub = Computes
class_of Sll = Computes
class_of Slt = Computes
class_of Sltu = Computes
class_of Xor = Computes
class_of Srl = Computes
class_of Sra = Computes
class_of Or = Computes
class_of And = Computes
class_of Addw = Computes
class_of Subw = Computes
class_of Sllw = Computes
class_of Srlw = Computes
class_of Sraw = Computes
class_of Mul = Computes
class_of Mulh = Computes
class_of Mulhsu = Computes
class_of Mulhu = Computes
class_of Div = Computes
class_of Divu = Computes
class_of Rem = Computes
class_of Remu = Computes
class_of Mulw = Computes
class_of Divw = Computes
class_of Divuw = Computes
class_of Remw = Computes
class_of Remuw = Computes
class_of ScW = stores_if_reserved 4
class_of AmoswapW = updates 4
class_of AmoaddW = updates 4
class_of AmoxorW = updates 4
class_of AmoandW = updates 4
class_of AmoorW = updates 4
class_of AmominW = updates 4
class_of AmomaxW = updates 4
class_of AmominuW = updates 4
class_of AmomaxuW = updates 4
class_of ScD = stores_if_reserved 8
class_of AmoswapD = updates 8
class_of AmoaddD = updates 8
class_of AmoxorD = updates 8
class_of AmoandD = updates 8
class_of AmoorD = updates 8
class_of AmominD = updates 8
class_of AmomaxD = updates 8
class_of AmominuD = updates 8
class_of AmomaxuD = updates 8
class_of LrW = reserves 4
class_of LrD = reserves 8
class_of Csrrw = ChangesCsr Swap
class_of Csrrs = ChangesCsr Set
class_of Csrrc = ChangesCsr Clear
class_of Csrrwi = ChangesCsr Swap
class_of Csrrsi = ChangesCsr Set
class_of Csrrci = ChangesCsr Clear
class_of SfenceVma = FencesTranslation
class_of Ecall = CallsEnvironment
class_of Ebreak = Breaks
class_of Sret = ReturnsFromS
class_of Mret = ReturnsFromM

abbrev pub kind_of : Ins → Option AccessKind
kind_of ins = option_map (λ access. access.0) (access_in (class_of ins))

-- 0 where it accesses none
abbrev pub width_of : Ins → ℕ
width_of ins = option_map_or (λ access. access.1) (access_in (class_of ins)) 0
