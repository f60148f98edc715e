-- The fields of mstatus and satp, and the numbers of the modes in them.
use Rattle.std.specs.Prelude.{ℕ, ◌==◌, ◌≢◌, if◌then◌else◌}
use Rattle.rv_fields.specs.declared.mode.Mode.{Mode}
use Rattle.rv_fields.specs.declared.mode.Mode.TheVariants.{U, S, M}
use Rattle.rv_fields.specs.Field.{Field, bit, field_of}

-- mstatus: whether interrupts are enabled in modes S and M
abbrev pub sie : Field
sie = bit 1

abbrev pub mie : Field
mie = bit 3

-- what these were before the trap to S, and to M
abbrev pub spie : Field
spie = bit 5

abbrev pub mpie : Field
mpie = bit 7

-- the mode before the trap to S, and to M
abbrev pub spp : Field
spp = bit 8

abbrev pub mpp : Field
mpp = record { low = 11; width = 2 }

-- in mode M loads and stores are translated and checked as in the mode in MPP
abbrev pub mprv : Field
mprv = bit 17

-- data accesses in mode S may use user pages
abbrev pub sum : Field
sum = bit 18

-- loads may use pages that are only executable
abbrev pub mxr : Field
mxr = bit 19

-- satp and sfence.vma are kept from mode S
abbrev pub tvm : Field
tvm = bit 20

-- sret is kept from mode S
abbrev pub tsr : Field
tsr = bit 22

-- satp: the kind of translation, 0 for none and 8 for Sv39
abbrev pub satp_mode : Field
satp_mode = record { low = 60; width = 4 }

abbrev pub mode_number : Mode → ℕ
mode_number U = 0
mode_number S = 1
mode_number M = 3

-- The mode of a number. 2 is the number of none and is never written to MPP; it counts as 0.
abbrev pub mode_of : ℕ → Mode
mode_of number = if number == 3 then M else if number == 1 then S else U

-- MPP has the number of a mode
abbrev pub HasMode : ℕ → Type 0
HasMode status = field_of mpp status ≢ 2
