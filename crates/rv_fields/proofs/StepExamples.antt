-- Worked steps, computed on the definitions.
use Rattle.std.proofs.Common.{ℕ, ◌-◌, ◌≡◌, refl, List, [], ◌∷◌, Option, Some, None}
use Rattle.std.specs.Prelude.{nat_lt, if◌then◌else◌, Bool, true, false}
use Rattle.std.specs.Int.{w32, w64, to_le_bytes}
use Rattle.std.specs.List.{slice_get}
use Rattle.std.specs.Option.{option_or}
use Rattle.rv_fields.specs.declared.access.AccessKind.TheVariants as kinds
use Rattle.rv_fields.specs.declared.mode.Mode.TheVariants.{U, S, M}
use Rattle.rv_fields.specs.CsrFile.{zero_file, written}
use Rattle.rv_fields.specs.Decode.{ins_at}
use Rattle.rv_fields.specs.Effect.{Effect, Accessed}
use Rattle.rv_fields.specs.Field.{masked, field_of, with_field}
use Rattle.rv_fields.specs.Hart.{Hart, updated}
use Rattle.rv_fields.specs.Memory.{Bytes, Seen, Links}
use Rattle.rv_fields.specs.Step.{step, step_decoded, outcome, trap_taken, Stepped}
use Rattle.rv_fields.specs.Trap.{pushed}

-- memory that tells these bytes, from the place on, and elsewhere what another tells
abbrev bytes_at : ℕ → List ℕ → Bytes → Bytes
bytes_at place bytes other q = if nat_lt q place then other q else option_or (slice_get bytes (q - place)) (other q)

abbrev nothing : Bytes
nothing q = None

abbrev no_links : Links
no_links h g = Some false

abbrev word_at : ℕ → ℕ → Seen
word_at place word = record { byte = bytes_at place (to_le_bytes w32 word) nothing; link = no_links }

abbrev start : ℕ → Hart
start pc = record { number = 0; pc = pc; x = updated (λ q. Some 0) 31 None; mode = M; csrs = zero_file; reserved = None }

-- what a step does that only writes a register
abbrev plain : ℕ → ℕ → Option (ℕ × ℕ) → Effect
plain pc word rd = record { hart = 0; pc = pc; pa = Some pc; word = Some word; rd = rd; access = None; trail = []; trap = None }

-- `addi x1,x0,5` goes on behind itself with x1 = 5
pub adds : step (word_at 0x84000000 0x00500093) (start 0x84000000) ≡ Some (record {
  effect = plain 0x84000000 0x00500093 (Some (1, 5));
  hart = record (start 0x84000000) { pc = 0x84000004; x = updated (start 0).x 1 (Some 5) };
})
unfolding step step_decoded outcome field_of ins_at
adds = refl

-- a jump to itself stays at its address, and writes nothing
pub stays : step (word_at 0x84000004 0x0000006f) (start 0x84000004) ≡ Some (record { effect = plain 0x84000004 0x0000006f None; hart = start 0x84000004 })
unfolding step step_decoded outcome field_of ins_at
stays = refl

-- the word isn't told, or x31 isn't, which `addi x1,x31,5` reads
pub not_told : step (record { byte = bytes_at 0x84000000 (0x93 ∷ 0 ∷ 0x50 ∷ []) nothing; link = no_links }) (start 0x84000000) ≡ None
unfolding step step_decoded outcome field_of ins_at
not_told = refl

pub not_told_register : step (word_at 0x84000000 0x005f8093) (start 0x84000000) ≡ None
unfolding step step_decoded outcome field_of ins_at
not_told_register = refl

-- a trap to M, from mode M, with the handler at 80020000
abbrev with_handler : ℕ → Hart
with_handler pc = record (start pc) { csrs = record zero_file { mtvec = 0x80020000 } }

-- the hart in its handler: MPP has mode M
abbrev trapped_at : ℕ → ℕ → ℕ → Hart
trapped_at pc cause tval = record (start 0x80020000) {
  csrs = record zero_file { mtvec = 0x80020000; mepc = pc; mcause = cause; mtval = tval; mstatus = 0x1800 };
}

abbrev trap : ℕ → Option ℕ → Option ℕ → ℕ → ℕ → Effect
trap pc pa word cause tval = record {
  hart = 0;
  pc = pc;
  pa = pa;
  word = word;
  rd = None;
  access = None;
  trail = [];
  trap = Some (record { cause = cause; epc = pc; tval = tval; to = M });
}

-- a jump to an address that is no multiple of 4: this one goes on by 2
pub misaligned_jump : step (word_at 0x84000004 0x0020006f) (with_handler 0x84000004) ≡ Some (record {
  effect = trap 0x84000004 (Some 0x84000004) (Some 0x0020006f) 0 0x84000006;
  hart = trapped_at 0x84000004 0 0x84000006;
})
unfolding step step_decoded outcome trap_taken pushed with_field masked field_of ins_at
misaligned_jump = refl

-- a word without a row, also where its bytes are 0
pub no_row : step (word_at 0x84000000 0) (with_handler 0x84000000) ≡ Some (record {
  effect = trap 0x84000000 (Some 0x84000000) (Some 0) 2 0;
  hart = trapped_at 0x84000000 2 0;
})
unfolding step step_decoded outcome trap_taken pushed with_field masked field_of ins_at
no_row = refl

-- a fetch outside RAM
pub no_ram : step (word_at 0x84000000 0) (with_handler 0x1000) ≡ Some (record { effect = trap 0x1000 None None 1 0x1000; hart = trapped_at 0x1000 1 0x1000 })
unfolding step step_decoded outcome trap_taken pushed with_field masked field_of ins_at
no_ram = refl

-- a load at an address that is no multiple of its size: `ld x1,4(x0)`
pub misaligned_load : step (word_at 0x84000000 0x00403083) (with_handler 0x84000000) ≡ Some (record {
  effect = trap 0x84000000 (Some 0x84000000) (Some 0x00403083) 4 4;
  hart = trapped_at 0x84000000 4 4;
})
unfolding step step_decoded outcome trap_taken pushed with_field masked field_of ins_at
misaligned_load = refl

-- ---- data: x2 points to 86000000, where the bytes of ffffffff80000001 stand

abbrev beside_data : ℕ → Seen
beside_data word = record { byte = bytes_at 0x84000000 (to_le_bytes w32 word) (bytes_at 0x86000000 (to_le_bytes w64 0xffffffff80000001) nothing); link = no_links }

abbrev pointing : Hart
pointing = record (start 0x84000000) { x = updated (start 0).x 2 (Some 0x86000000) }

abbrev accessing : ℕ → Option (ℕ × ℕ) → Accessed → Effect
accessing word rd a = record { hart = 0; pc = 0x84000000; pa = Some 0x84000000; word = Some word; rd = rd; access = Some a; trail = []; trap = None }

-- `lw x1,0(x2)` extends the sign, `lwu x1,0(x2)` doesn't
pub loads_word : step (beside_data 0x00012083) pointing ≡ Some (record {
  effect = accessing 0x00012083 (Some (1, 0xffffffff80000001))
      (record { kind = kinds.Load; va = 0x86000000; pa = 0x86000000; size = 4; read = Some 0x80000001; wrote = None });
  hart = record pointing { pc = 0x84000004; x = updated pointing.x 1 (Some 0xffffffff80000001) };
})
unfolding step step_decoded outcome field_of ins_at
loads_word = refl

pub loads_unsigned : step (beside_data 0x00016083) pointing ≡ Some (record {
  effect = accessing 0x00016083 (Some (1, 0x80000001))
      (record { kind = kinds.Load; va = 0x86000000; pa = 0x86000000; size = 4; read = Some 0x80000001; wrote = None });
  hart = record pointing { pc = 0x84000004; x = updated pointing.x 1 (Some 0x80000001) };
})
unfolding step step_decoded outcome field_of ins_at
loads_unsigned = refl

-- `sb x2,1(x2)` needs no byte there
pub stores_byte : step (word_at 0x84000000 0x002100a3) pointing ≡ Some (record {
  effect = accessing 0x002100a3 None (record { kind = kinds.Store; va = 0x86000001; pa = 0x86000001; size = 1; read = None; wrote = Some 0 });
  hart = record pointing { pc = 0x84000004 };
})
unfolding step step_decoded outcome field_of ins_at
stores_byte = refl

-- `amoadd.w x1,x2,(x2)` writes the sum, and gives what stood there
pub adds_in_memory : step (beside_data 0x002120af) pointing ≡ Some (record {
  effect = accessing 0x002120af (Some (1, 0xffffffff80000001))
      (record { kind = kinds.Amo; va = 0x86000000; pa = 0x86000000; size = 4; read = Some 0x80000001; wrote = Some 0x6000001 });
  hart = record pointing { pc = 0x84000004; x = updated pointing.x 1 (Some 0xffffffff80000001) };
})
unfolding step step_decoded outcome field_of ins_at
adds_in_memory = refl

-- `lr.d x1,(x2)` leaves a reservation
pub reserves : step (beside_data 0x100130af) pointing ≡ Some (record {
  effect = accessing 0x100130af (Some (1, 0xffffffff80000001))
      (record { kind = kinds.Lr; va = 0x86000000; pa = 0x86000000; size = 8; read = Some 0xffffffff80000001; wrote = None });
  hart = record pointing {
    pc = 0x84000004;
    x = updated pointing.x 1 (Some 0xffffffff80000001);
    reserved = Some (record { pa = 0x86000000; size = 8 });
  };
})
unfolding step step_decoded outcome field_of ins_at
reserves = refl

-- `sc.d x1,x2,(x2)` succeeds where the reservation is of its address and size and its link stands
abbrev reserving : ℕ → Hart
reserving size = record pointing { reserved = Some (record { pa = 0x86000000; size = size }) }

abbrev linking : Bool → Seen
linking stands = record (word_at 0x84000000 0x182130af) { link = λ h g. Some stands }

pub succeeds : step (linking true) (reserving 8) ≡ Some (record {
  effect = accessing 0x182130af (Some (1, 0)) (record { kind = kinds.Sc; va = 0x86000000; pa = 0x86000000; size = 8; read = None; wrote = Some 0x86000000 });
  hart = record pointing { pc = 0x84000004; x = updated pointing.x 1 (Some 0) };
})
unfolding step step_decoded outcome field_of ins_at
succeeds = refl

abbrev failed : Stepped
failed = record { effect = plain 0x84000000 0x182130af (Some (1, 1)); hart = record pointing { pc = 0x84000004; x = updated pointing.x 1 (Some 1) } }

pub fails_unlinked : step (linking false) (reserving 8) ≡ Some failed
unfolding step step_decoded outcome field_of ins_at
fails_unlinked = refl

pub fails_other_size : step (linking true) (reserving 4) ≡ Some failed
unfolding step step_decoded outcome field_of ins_at
fails_other_size = refl

pub fails_unreserved : step (linking true) pointing ≡ Some failed
unfolding step step_decoded outcome field_of ins_at
fails_unreserved = refl

-- ---- CSRs: `csrrw x1,mscratch,x2`, and `csrrsi x0,mstatus,8`, whose number is no register

pub swaps : step (word_at 0x84000000 0x340110f3) pointing ≡ Some (record {
  effect = plain 0x84000000 0x340110f3 (Some (1, 0));
  hart = record pointing { pc = 0x84000004; x = updated pointing.x 1 (Some 0); csrs = record zero_file { mscratch = 0x86000000 } };
})
unfolding step step_decoded outcome written masked ins_at
swaps = refl

pub sets_bit : step (word_at 0x84000000 0x30046073) (record (start 0x84000000) { x = updated (λ q. None) 0 (Some 0) }) ≡ Some (record {
  effect = plain 0x84000000 0x30046073 None;
  hart = record (start 0x84000000) { pc = 0x84000004; x = updated (λ q. None) 0 (Some 0); csrs = record zero_file { mstatus = 8 } };
})
unfolding step step_decoded outcome written masked field_of ins_at
sets_bit = refl

-- `fence` writes no register, whatever stands in the place of rd
pub fences : step (word_at 0x84000000 0x0ff0008f) (start 0x84000000) ≡ Some (record {
  effect = plain 0x84000000 0x0ff0008f None;
  hart = record (start 0x84000000) { pc = 0x84000004 };
})
unfolding step step_decoded outcome field_of ins_at
fences = refl

-- `ecall` in mode U, delegated to S: the handler finds the pc in sepc, and SPP is U
abbrev delegating : Hart
delegating = record (start 0x84000000) { mode = U; csrs = record zero_file { stvec = 0x80021000; medeleg = 0x100; mstatus = 2 } }

pub calls : step (word_at 0x84000000 0x00000073) delegating ≡ Some (record {
  effect = record {
    hart = 0;
    pc = 0x84000000;
    pa = Some 0x84000000;
    word = Some 0x00000073;
    rd = None;
    access = None;
    trail = [];
    trap = Some (record { cause = 8; epc = 0x84000000; tval = 0; to = S });
  };
  hart = record delegating {
    pc = 0x80021000;
    mode = S;
    csrs = record zero_file { stvec = 0x80021000; medeleg = 0x100; sepc = 0x84000000; scause = 8; mstatus = 0x20 };
  };
})
unfolding step step_decoded outcome trap_taken pushed with_field masked field_of ins_at
calls = refl

-- ---- Sv39: in mode S, the page 40000000 is the code's, by a root at 80100000 and tables at 80101000 and 80102000

abbrev paged : Hart
paged = record (start 0x40000000) { mode = S; csrs = record zero_file { satp = 0x8000000000080100; mtvec = 0x80020000 } }

abbrev tables : ℕ → Seen
tables leaf = record {
  byte = bytes_at 0x80100008 (to_le_bytes w64 0x20040401) (bytes_at 0x80101000 (to_le_bytes w64 0x20040801)
      (bytes_at 0x80102000 (to_le_bytes w64 leaf) (bytes_at 0x84000000 (to_le_bytes w32 0x00500093) nothing)));
  link = no_links;
}

pub translates : step (tables 0x21000049) paged ≡ Some (record {
  effect = record { hart = 0; pc = 0x40000000; pa = Some 0x84000000; word = Some 0x00500093; rd = Some (1, 5); access = None; trail = []; trap = None };
  hart = record paged { pc = 0x40000004; x = updated paged.x 1 (Some 5) };
})
unfolding step step_decoded outcome field_of ins_at
translates = refl

-- a leaf with A = 0, and one of user pages
abbrev faulted : Stepped
faulted = record {
  effect = trap 0x40000000 None None 12 0x40000000;
  hart = record (start 0x80020000) {
    csrs = record zero_file { satp = 0x8000000000080100; mtvec = 0x80020000; mepc = 0x40000000; mcause = 12; mtval = 0x40000000; mstatus = 0x800 };
  };
}

pub not_accessed : step (tables 0x21000009) paged ≡ Some faulted
unfolding step step_decoded outcome trap_taken pushed with_field masked field_of ins_at
not_accessed = refl

pub of_user : step (tables 0x21000059) paged ≡ Some faulted
unfolding step step_decoded outcome trap_taken pushed with_field masked field_of ins_at
of_user = refl
