-- The instructions that harts run before and beside their templates, and the values that they start with.
use Rattle.std.specs.Prelude.{ℕ, ◌+◌, ◌-◌, ◌*◌, ◌^◌, pos, negsuc, ℤ, List, [], ◌∷◌, ◌++◌, map, Option, unwrap_or, if◌then◌else◌}
use Rattle.std.specs.Option.{option_map_or}
use Rattle.std.specs.List.{flat_map, enumerate_from, range_with_len}
use Rattle.rv_fields.specs.declared.csr.Csr.{Csr}
use Rattle.rv_fields.specs.declared.csr.Csr.TheVariants.{Stvec, Sscratch, Sepc, Scause, Stval, Satp, Mstatus, Medeleg, Mideleg, Mie, Mtvec, Mscratch, Mepc, Pmpcfg0, Pmpaddr0, Mhartid}
use Rattle.rv_fields.specs.declared.mode.Mode.{Mode}
use Rattle.rv_fields.specs.declared.mode.Mode.TheVariants.{U, S, M}
use Rattle.rv_fields.specs.declared.row_table.Ins.{Ins}
use Rattle.rv_fields.specs.declared.row_table.Ins.TheVariants.{Addi, Add, Auipc, Bgeu, Csrrs, Csrrw, Jal, Jalr, Ld, Mret, Slli, Sret}
use Rattle.rv_fields.specs.Csr.{csr_number}
use Rattle.rv_fields.specs.Decode.{Decoded}
use Rattle.rv_fields.specs.Status.{mode_number}
use Rattle.rv_encode.specs.Packing.{word_by}
use Rattle.region_plan.specs.Plan.{HartPlan, page_of}
use Rattle.boot_words.specs.Layout.{csrs_offset, m_handler_at, pool_at, registers_offset, window_by}

-- an instruction with its operands rd, rs1, rs2 and immediate; those that its form lacks are 0
abbrev pub instruction : Ins → ℕ → ℕ → ℕ → ℤ → Decoded
instruction ins rd rs1 rs2 imm = record { ins = ins; ops = record { rd = rd; rs1 = rs1; rs2 = rs2; imm = imm; aqrl = 0 } }

-- the word that spells it
abbrev pub spelled : Decoded → ℕ
spelled d = word_by d.ins d.ops

-- csrrs rd,csr,x0
abbrev pub read_csr : ℕ → Csr → Decoded
read_csr rd csr = instruction Csrrs rd 0 0 (pos (csr_number csr))

-- csrrw rd,csr,rs1
abbrev pub swap_csr : ℕ → Csr → ℕ → Decoded
swap_csr rd csr rs1 = instruction Csrrw rd rs1 0 (pos (csr_number csr))

-- ld rd,offset(x31)
abbrev pub table_load : ℕ → ℕ → Decoded
table_load rd offset = instruction Ld rd 31 0 (pos offset)

abbrev pub mret : Decoded
mret = instruction Mret 0 0 0 (pos 0)

-- ---- the dispatcher

-- It sends each of so many harts to its boot block; one with a greater number waits at the last instruction.
abbrev pub dispatcher_code : ℕ → List Decoded
dispatcher_code harts =
    read_csr 5 Mhartid
    ∷ instruction Addi 6 0 0 (pos harts)
    ∷ instruction Bgeu 0 5 6 (pos 20)
    ∷ instruction Slli 5 5 0 (pos 12)
    ∷ instruction Auipc 6 0 0 (pos 0x1000)
    ∷ instruction Add 6 6 5 (pos 0)
    ∷ instruction Jalr 0 6 0 (negsuc 15)
    ∷ instruction Jal 0 0 0 (pos 0)
    ∷ []

abbrev pub dispatcher : ℕ → List ℕ
dispatcher harts = map spelled (dispatcher_code harts)

-- ---- the boot block

-- the CSRs that it writes, in order
abbrev pub boot_csr_list : List Csr
boot_csr_list = Mstatus ∷ Medeleg ∷ Mideleg ∷ Mie ∷ Mtvec ∷ Mscratch ∷ Mepc
    ∷ Stvec ∷ Sscratch ∷ Sepc ∷ Scause ∷ Stval ∷ Satp ∷ Pmpaddr0 ∷ Pmpcfg0 ∷ []

-- a CSR, with its place from 0, is loaded into x30 and written
abbrev pub csr_code : ℕ × Csr → List Decoded
csr_code c = table_load 30 (csrs_offset + 8 * c.0) ∷ swap_csr 0 c.1 30 ∷ []

-- a register is loaded from its place in the table, where x1 comes first
abbrev pub register_code : ℕ → Decoded
register_code r = table_load r (registers_offset + 8 * (r - 1))

-- x31 is the block's own address; then the CSRs, and x1 to x31, the last of which takes the place of that address.
abbrev pub boot_code : List Decoded
boot_code = instruction Auipc 31 0 0 (pos 0)
    ∷ flat_map csr_code (enumerate_from 0 boot_csr_list)
    ++ map register_code (range_with_len 1 31)
    ++ mret ∷ []

abbrev pub boot_block : List ℕ
boot_block = map spelled boot_code

-- ---- the handlers

-- A trap handler swaps x31 with the scratch register, adds 4 to epc, swaps back and returns.
abbrev pub handler_by : Csr → Csr → Ins → List Decoded
handler_by scratch epc returns =
    swap_csr 31 scratch 31
    ∷ read_csr 31 epc
    ∷ instruction Addi 31 31 0 (pos 4)
    ∷ swap_csr 0 epc 31
    ∷ swap_csr 31 scratch 31
    ∷ instruction returns 0 0 0 (pos 0)
    ∷ []

-- mode U has none
abbrev pub handler_code : Mode → List Decoded
handler_code M = handler_by Mscratch Mepc Mret
handler_code S = handler_by Sscratch Sepc Sret
handler_code U = []

abbrev pub handler : Mode → List ℕ
handler mode = map spelled (handler_code mode)

-- ---- the values

-- mstatus: the hart's mode in MPP, SUM and TVM by the job
abbrev pub boot_mstatus : HartPlan → ℕ
boot_mstatus plan = mode_number plan.mode * 2 ^ 11 + (if plan.sum then 2 ^ 18 else 0) + (if plan.tvm then 2 ^ 20 else 0)

-- satp: Sv39 over the root of the hart's space, where it has one
abbrev pub boot_satp : HartPlan → ℕ
boot_satp plan = option_map_or (λ space. 2 ^ 63 + page_of (pool_at space)) plan.space 0

-- what boot writes to a CSR of a hart with this plan: the handlers' addresses, the first code address in mepc, and memory open to
-- all modes
abbrev pub boot_csr : HartPlan → ℕ → Csr → ℕ
boot_csr plan hart Mstatus = boot_mstatus plan
boot_csr plan hart Medeleg = plan.deleg
boot_csr plan hart Mtvec = m_handler_at
boot_csr plan hart Mepc = window_by plan hart
boot_csr plan hart Stvec = 0x3ffffff000
boot_csr plan hart Satp = boot_satp plan
boot_csr plan hart Pmpaddr0 = 0x3fffffffffffff
boot_csr plan hart Pmpcfg0 = 0x1f
boot_csr plan hart csr = 0

-- and to x1 to x31: the starting values that are given, and 0 to the others
abbrev pub boot_register : (ℕ → Option ℕ) → ℕ → ℕ
boot_register initial r = unwrap_or (initial r) 0

-- the tables of these values
abbrev pub boot_csrs : HartPlan → ℕ → List ℕ
boot_csrs plan hart = map (boot_csr plan hart) boot_csr_list

abbrev pub boot_registers : (ℕ → Option ℕ) → List ℕ
boot_registers initial = map (boot_register initial) (range_with_len 1 31)
