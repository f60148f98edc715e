-- Where things stand in physical memory.
use Rattle.std.specs.Prelude.{ℕ, ◌+◌, ◌-◌, ◌*◌, ◌/◌, ◌%◌, ◌==◌, Bool, false, if◌then◌else◌}
use Rattle.rv_fields.specs.declared.mode.Mode.{Mode}
use Rattle.rv_fields.specs.declared.mode.Mode.TheVariants.{U, S, M}
use Rattle.rv_fields.specs.Status.{mode_number}
use Rattle.rv_fields.specs.Play.{reset_pc}
use Rattle.region_plan.specs.Plan.{HartPlan, Work, page_of, page_size, plan_of}

-- where every hart begins
abbrev pub dispatcher_at : ℕ
dispatcher_at = reset_pc

-- where the boot block of hart 0 begins
abbrev pub boot_blocks_at : ℕ
boot_blocks_at = 0x80001000

-- where a hart's boot block begins
abbrev pub boot_block_at : ℕ → ℕ
boot_block_at hart = boot_blocks_at + hart * 0x1000

-- where its starting values of CSRs and of x1 to x31 stand, and how far behind it
abbrev pub csrs_offset : ℕ
csrs_offset = 0x400

abbrev pub registers_offset : ℕ
registers_offset = 0x478

abbrev pub boot_csrs_at : ℕ → ℕ
boot_csrs_at hart = boot_block_at hart + csrs_offset

abbrev pub boot_registers_at : ℕ → ℕ
boot_registers_at hart = boot_block_at hart + registers_offset

-- where the trap handlers of modes M and S stand
abbrev pub m_handler_at : ℕ
m_handler_at = 0x80020000

abbrev pub s_handler_at : ℕ
s_handler_at = 0x80021000

-- where the code window of hart 0 begins
abbrev pub code_windows_at : ℕ
code_windows_at = 0x84000000

-- where a hart's code window begins
abbrev pub code_start : ℕ → ℕ
code_start hart = code_windows_at + hart * 0x100000

-- the address of a word of the window
abbrev pub code_address : ℕ → ℕ → ℕ
code_address hart index = code_start hart + 4 * index

-- the virtual page at which every space has the S handler
abbrev pub handler_page : ℕ
handler_page = 0x3ffffff

-- a space's tables, of which the first is its root
abbrev pub pool_at : ℕ → ℕ
pool_at space = 0x80100000 + space * 0x200000

abbrev pub table_at : ℕ → ℕ → ℕ
table_at space number = pool_at space + number * page_size

abbrev pub data_start : ℕ
data_start = 0x86000000

abbrev pub frame_at : ℕ → ℕ
frame_at frame = data_start + frame * page_size

-- the shard of a byte of a data frame
abbrev pub shard_of : ℕ → ℕ
shard_of pa = (pa - data_start) / page_size % 32

-- a leaf, or a pointer to a table, with these low bits
abbrev pub pte_of : ℕ → ℕ → ℕ
pte_of pa bits = pa / page_size * 0x400 + bits

abbrev pub window_by : HartPlan → ℕ → ℕ
window_by plan h = if mode_number plan.mode == 3 then code_start h else plan.code

-- the first code address of a hart as it sees it
abbrev pub window_at : Work → ℕ → ℕ
window_at work h = window_by (plan_of work h) h

-- how many words its window has
abbrev pub window_words : Work → ℕ → ℕ
window_words work h = 1024 * (plan_of work h).code_pages

-- the hart is in the handler of its mode
abbrev pub is_in_handler : Mode → ℕ → Bool
is_in_handler M pc = page_of pc == page_of m_handler_at
is_in_handler S pc = page_of pc == handler_page
is_in_handler U pc = false
