-- The table of control and status registers (CSRs): each has a number, a name, the bits that a write changes,
-- and bits that always read as 1.
use Rattle.std.specs.Prelude.{ℕ, ◌==◌, List, [], ◌∷◌, codes, Option, find}
use Rattle.std.specs.Str.{bytes_eq}
use Rattle.rv_fields.specs.declared.csr.Csr.{Csr}
use Rattle.rv_fields.specs.declared.csr.Csr.TheVariants.{Sstatus, Stvec, Sscratch, Sepc, Scause, Stval, Satp, Mstatus, Medeleg, Mideleg, Mie, Mtvec, Mscratch, Mepc, Mcause, Mtval, Pmpcfg0, Pmpaddr0, Mhartid}

pub record CsrRow : Type 0 where
  pub number : ℕ
  pub name : List ℕ
  -- the bits that a write changes; all others stay
  pub writable : ℕ
  -- the bits that read as 1 whatever was written
  pub constant : ℕ

-- all 64 bits; all but the two lowest, which an address of an instruction doesn't need; no bit
abbrev pub all_bits : ℕ
all_bits = 0xffff_ffff_ffff_ffff

abbrev pub address_bits : ℕ
address_bits = 0xffff_ffff_ffff_fffc

abbrev pub no_bits : ℕ
no_bits = 0

-- Constant are the widths of registers in mode S (bits 35 and 34 of mstatus) and in mode U (bits 33 and 32):
-- 2 stands for 64 bits.
abbrev pub csr_row : Csr → CsrRow
csr_row Sstatus = record { number = 0x100; name = codes "sstatus"; writable = 0xc0122; constant = 0x2_0000_0000 }
csr_row Stvec = record { number = 0x105; name = codes "stvec"; writable = address_bits; constant = no_bits }
csr_row Sscratch = record { number = 0x140; name = codes "sscratch"; writable = all_bits; constant = no_bits }
csr_row Sepc = record { number = 0x141; name = codes "sepc"; writable = address_bits; constant = no_bits }
csr_row Scause = record { number = 0x142; name = codes "scause"; writable = all_bits; constant = no_bits }
csr_row Stval = record { number = 0x143; name = codes "stval"; writable = all_bits; constant = no_bits }
csr_row Satp = record { number = 0x180; name = codes "satp"; writable = all_bits; constant = no_bits }
csr_row Mstatus = record { number = 0x300; name = codes "mstatus"; writable = 0x7e19aa; constant = 0xa_0000_0000 }
csr_row Medeleg = record { number = 0x302; name = codes "medeleg"; writable = 0xb3ff; constant = no_bits }
csr_row Mideleg = record { number = 0x303; name = codes "mideleg"; writable = no_bits; constant = no_bits }
csr_row Mie = record { number = 0x304; name = codes "mie"; writable = no_bits; constant = no_bits }
csr_row Mtvec = record { number = 0x305; name = codes "mtvec"; writable = address_bits; constant = no_bits }
csr_row Mscratch = record { number = 0x340; name = codes "mscratch"; writable = all_bits; constant = no_bits }
csr_row Mepc = record { number = 0x341; name = codes "mepc"; writable = address_bits; constant = no_bits }
csr_row Mcause = record { number = 0x342; name = codes "mcause"; writable = all_bits; constant = no_bits }
csr_row Mtval = record { number = 0x343; name = codes "mtval"; writable = all_bits; constant = no_bits }
csr_row Pmpcfg0 = record { number = 0x3a0; name = codes "pmpcfg0"; writable = no_bits; constant = no_bits }
csr_row Pmpaddr0 = record { number = 0x3b0; name = codes "pmpaddr0"; writable = no_bits; constant = no_bits }
csr_row Mhartid = record { number = 0xf14; name = codes "mhartid"; writable = no_bits; constant = no_bits }

-- the rows in the table's order
abbrev pub all_csrs : List Csr
all_csrs =
    Sstatus ∷ Stvec ∷ Sscratch ∷ Sepc ∷ Scause ∷ Stval ∷ Satp ∷ Mstatus ∷ Medeleg ∷ Mideleg ∷ Mie ∷ Mtvec ∷ Mscratch ∷ Mepc
    ∷ Mcause ∷ Mtval ∷ Pmpcfg0 ∷ Pmpaddr0 ∷ Mhartid ∷ []

abbrev pub csr_number : Csr → ℕ
csr_number csr = (csr_row csr).number

abbrev pub csr_name : Csr → List ℕ
csr_name csr = (csr_row csr).name

-- the register with the number; none where no row has it
abbrev pub csr_at : ℕ → Option Csr
csr_at number = find (λ csr. csr_number csr == number) all_csrs

-- the register with the name; none where no row has it
abbrev pub csr_called : List ℕ → Option Csr
csr_called name = find (λ csr. bytes_eq (csr_name csr) name) all_csrs
