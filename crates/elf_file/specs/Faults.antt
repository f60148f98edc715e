-- What keeps a file from being loaded: tests in their order, and the fault of the first that fails.
use Rattle.std.specs.Prelude.{ℕ, ◌+◌, ◌*◌, List, [], ◌∷◌, ◌++◌, length, map, Bool, Option, Some, None, Result, Ok, Err, ◌≡◌, ◌≢◌, nat_le, ◌==◌, ◌||◌, if◌then◌else◌}
use Rattle.std.specs.List.{flat_map}
use Rattle.rv_fields.specs.Play.{reset_pc}
use Rattle.ram_image.specs.Segments.{Span, lies_in_ram, is_apart}
use Rattle.elf_file.specs.declared.fault.ElfField.{ElfField}
use Rattle.elf_file.specs.declared.fault.ElfField.TheVariants.{Class, Encoding, Version, FileType, Machine, Entry, Flags, PhEntSize, FileSize}
use Rattle.elf_file.specs.declared.fault.ElfFault.{ElfFault}
use Rattle.elf_file.specs.declared.fault.ElfFault.TheVariants.{Short, NotElf, NotThis, OutsideRam, Clash, Memory}
use Rattle.elf_file.specs.declared.fields.ProgramHeader.{ProgramHeader}
use Rattle.elf_file.specs.Headers.{field, header_offset, header_count, loads}

-- a test, and the fault of a file that fails it
pub record Test : Type 0 where
  pub holds : Bool
  pub fault : ElfFault

-- the fault of the first test that fails
abbrev pub first_failed : List Test → Option ElfFault
first_failed [] = None
first_failed (t ∷ ts) = if t.holds then first_failed ts else Some t.fault

-- the file is long enough to have so many bytes at the offset; no bytes may stand anywhere
abbrev pub length_test : List ℕ → ℕ → ℕ → Test
length_test file offset size = record { holds = (size == 0) || nat_le (offset + size) (length file); fault = Short (length file) }

-- the value of the field is the wanted one
abbrev pub field_test : ElfField → ℕ → ℕ → Test
field_test name value wanted = record { holds = value == wanted; fault = NotThis name value }

-- The header is whole, and it is that of a program for this machine: 64 bits, little endian, version 1, an
-- executable, for RISC-V, that begins where harts do at reset, without flags, and with program headers of 56 bytes.
-- These are whole too.
unfoldable pub header_tests : List ℕ → List Test
header_tests file =
    length_test file 0 64
    ∷ record { holds = field file 0 4 == 0x464c457f; fault = NotElf }
    ∷ field_test Class (field file 4 1) 2
    ∷ field_test Encoding (field file 5 1) 1
    ∷ field_test Version (field file 6 1) 1
    ∷ field_test FileType (field file 16 2) 2
    ∷ field_test Machine (field file 18 2) 243
    ∷ field_test Entry (field file 24 8) reset_pc
    ∷ field_test Flags (field file 48 4) 0
    ∷ field_test PhEntSize (field file 54 2) 56
    ∷ length_test file (header_offset file) (56 * header_count file)
    ∷ []

abbrev pub header_span : ProgramHeader → Span
header_span h = record { at = h.paddr; size = h.memsz }

-- The segment has no more bytes in the file than in memory, it lies in RAM, and its bytes are there.
unfoldable pub segment_tests : List ℕ → ProgramHeader → List Test
segment_tests file h =
    record { holds = nat_le h.filesz h.memsz; fault = NotThis FileSize h.filesz }
    ∷ record { holds = lies_in_ram (header_span h); fault = OutsideRam h.number }
    ∷ length_test file h.offset h.filesz
    ∷ []

-- the second segment shares no address with the first
abbrev pub apart_test : ProgramHeader → ProgramHeader → Test
apart_test b a = record { holds = is_apart (header_span a) (header_span b); fault = Clash a.number b.number }

-- Each of the segments is apart from those before it, and from some before all of them.
abbrev pub apart_tests : List ProgramHeader → List ProgramHeader → List Test
apart_tests before [] = []
apart_tests before (h ∷ hs) = map (apart_test h) before ++ apart_tests (before ++ h ∷ []) hs

-- The tests of a file: the header, each segment to load by itself, and then each with those before it.
abbrev pub tests : List ℕ → List Test
tests file = header_tests file ++ (flat_map (segment_tests file) (loads file) ++ apart_tests [] (loads file))

-- the file's fault, if it has one
abbrev pub file_fault : List ℕ → Option ElfFault
file_fault file = first_failed (tests file)

-- The answer tells the fault; memory may run out in its place, or where there is none.
abbrev pub Finds : {A : Type 0} → Result A ElfFault → Option ElfFault → Type 0
Finds (Ok x) fault = fault ≡ None
Finds (Err e) fault = e ≢ Memory → fault ≡ Some e
