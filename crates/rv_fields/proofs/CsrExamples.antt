-- Worked examples on the definitions of the control and status registers, computed.
use Rattle.std.proofs.Common.{◌≡◌, refl, true, false}
use Rattle.std.specs.Prelude.{codes, replicate, Some, None}
use Rattle.rv_fields.specs.declared.csr.Csr.TheVariants.{Sstatus, Sepc, Satp, Mstatus, Medeleg, Mepc, Mscratch, Pmpaddr0, Mhartid}
use Rattle.rv_fields.specs.declared.mode.Mode.TheVariants.{U, S, M}
use Rattle.rv_fields.specs.Csr.{csr_at, csr_called}
use Rattle.rv_fields.specs.Field.{masked, field_of, with_field}
use Rattle.rv_fields.specs.Status.{mpp}
use Rattle.rv_fields.specs.CsrFile.{CsrFile, zero_file, reading, written, may_read, may_write, reset}
use Rattle.rv_fields.specs.Trap.{trap_mode, trapped, mret_mode, mret_done, sret_mode, sret_done, pushed, popped}

-- numbers and names
pub numbered : csr_at 0x341 ≡ Some Mepc
numbered = refl

pub named : csr_called (codes "satp") ≡ Some Satp
named = refl

pub no_number : csr_at 0x301 ≡ None
no_number = refl

-- a field of two bits: read, and set beside others
pub field_read : field_of mpp 0x1080 ≡ 2
unfolding field_of
field_read = refl

pub field_set : with_field mpp 0xa00000480 3 ≡ 0xa00001c80
unfolding with_field masked
field_set = refl

-- mstatus as boot writes it for a hart in mode S, with SUM and TVM: read, and seen through sstatus
abbrev in_mode_s : CsrFile
in_mode_s = record zero_file { mstatus = 0x140800; mtvec = 0x80020000; mepc = 0x10000; stvec = 0x3ffffff000 }

pub boot_writes : written (record zero_file { mtvec = 0x80020000; mepc = 0x10000; stvec = 0x3ffffff000 }) Mstatus 0x140800 ≡ in_mode_s
unfolding written masked field_of
boot_writes = refl

pub reads_mstatus : reading in_mode_s Mstatus ≡ 0xa00140800
reads_mstatus = refl

pub reads_sstatus : reading in_mode_s Sstatus ≡ 0x200040000
reads_sstatus = refl

-- the mret at the end of boot: to mode S, MPIE becomes 1 and MPP becomes U
pub boot_ends : mret_mode in_mode_s ≡ S
unfolding field_of
boot_ends = refl

pub started : mret_done in_mode_s ≡ record in_mode_s { mstatus = 0x140080 }
unfolding popped with_field field_of masked
started = refl

-- 2 is no mode, and leaves MPP; other bits of the value are written
pub leaves_mpp : written (record zero_file { mstatus = 0x1800 }) Mstatus 0x1080 ≡ record zero_file { mstatus = 0x1880 }
unfolding written masked field_of with_field
leaves_mpp = refl

-- a write to sstatus reaches no other bits of mstatus
pub writes_sstatus : written (record zero_file { mstatus = 0x1880 }) Sstatus 0xffffffffffffffff ≡ record zero_file { mstatus = 0xc19a2 }
unfolding written masked field_of
writes_sstatus = refl

-- satp takes Sv39, and of another kind of translation nothing
pub takes_sv39 : written zero_file Satp 0x8000000000080030 ≡ record zero_file { satp = 0x8000000000080030 }
unfolding written masked field_of
takes_sv39 = refl

pub takes_no_other : written (record zero_file { satp = 5 }) Satp 0x1000000000000001 ≡ record zero_file { satp = 5 }
unfolding written masked field_of
takes_no_other = refl

-- what cannot be written
pub mask_of_medeleg : written zero_file Medeleg 0xffffffffffffffff ≡ record zero_file { medeleg = 0xb3ff }
unfolding written masked
mask_of_medeleg = refl

pub pmpaddr0_stays : written zero_file Pmpaddr0 0x3fffffffffffff ≡ zero_file
unfolding written masked
pmpaddr0_stays = refl

-- who may do what
pub s_from_u : may_read zero_file Sepc U ≡ false
unfolding field_of
s_from_u = refl

pub m_from_s : may_read zero_file Mscratch S ≡ false
unfolding field_of
m_from_s = refl

pub satp_with_tvm : may_read in_mode_s Satp S ≡ false
unfolding field_of
satp_with_tvm = refl

pub satp_without_tvm : may_write zero_file Satp S ≡ true
unfolding field_of
satp_without_tvm = refl

pub mhartid_read : may_read zero_file Mhartid M ≡ true
mhartid_read = refl

pub mhartid_written : may_write zero_file Mhartid M ≡ false
mhartid_written = refl

-- an environment call from mode U, delegated: to S, with SIE put by in SPIE and U in SPP
abbrev delegates : CsrFile
delegates = record zero_file { mstatus = 0x182; medeleg = 0x100; stvec = 0x3ffffff000; mtvec = 0x80020000 }

pub goes_to_s : trap_mode delegates U 8 ≡ S
goes_to_s = refl

pub trapped_to_s : trapped delegates U 8 0x100000 0 ≡ record delegates { sepc = 0x100000; scause = 8; mstatus = 0xa0 }
unfolding pushed with_field field_of masked
trapped_to_s = refl

-- an illegal instruction there isn't delegated: to M, with MIE put by in MPIE and U in MPP
pub goes_to_m : trap_mode delegates U 2 ≡ M
goes_to_m = refl

pub trapped_to_m : trapped delegates U 2 0x100000 0x12345678 ≡ record delegates { mepc = 0x100000; mcause = 2; mtval = 0x12345678; mstatus = 0x102 }
unfolding pushed with_field field_of masked
trapped_to_m = refl

-- from mode M no trap goes to S
pub m_stays : trap_mode (record delegates { medeleg = 0xb3ff }) M 8 ≡ M
m_stays = refl

-- mret to M leaves MPRV, and mret to U clears it
pub mprv_left : (mret_done (record zero_file { mstatus = 0x21880 })).mstatus ≡ 0x20088
unfolding popped with_field field_of masked
mprv_left = refl

pub mprv_cleared : (mret_done (record zero_file { mstatus = 0x20080 })).mstatus ≡ 0x88
unfolding popped with_field field_of masked
mprv_cleared = refl

-- sret to S, and to U
pub sret_to_s : sret_mode (record zero_file { mstatus = 0x20120 }) ≡ S
unfolding field_of
sret_to_s = refl

pub sret_from_s : sret_done (record zero_file { mstatus = 0x20120 }) ≡ record zero_file { mstatus = 0x22 }
unfolding popped with_field field_of masked
sret_from_s = refl

pub sret_to_u : sret_mode zero_file ≡ U
unfolding field_of
sret_to_u = refl

-- reset from all ones: the masks hold, MIE and MPRV are 0, satp takes no such kind of translation
pub reset_status : (reset 3 (replicate 19 0xffffffffffffffff)).mstatus ≡ 0x7c19a2
unfolding reset written with_field field_of masked
reset_status = refl

pub reset_satp : (reset 3 (replicate 19 0xffffffffffffffff)).satp ≡ 0
unfolding reset written with_field field_of masked
reset_satp = refl

pub reset_number : (reset 3 (replicate 19 0xffffffffffffffff)).mhartid ≡ 3
unfolding reset
reset_number = refl
