-- Files of a few bytes, and their faults.
use Rattle.std.proofs.Common.{◌≡◌, ℕ, [], ◌++◌, replicate, Some, None, refl}
use Rattle.elf_file.specs.declared.fault.ElfField.TheVariants.{FileSize}
use Rattle.elf_file.specs.declared.fault.ElfFault.TheVariants.{Short, NotElf, NotThis, OutsideRam, Clash}
use Rattle.elf_file.specs.Writing.{PlacedSegment, program_header, file_header}
use Rattle.elf_file.specs.Headers.{field, header_at}
use Rattle.elf_file.specs.Faults.{header_tests, segment_tests, file_fault}
use Rattle.elf_file.specs.Loading.{is_loadable, load}

nothing_is_short : file_fault [] ≡ Some (Short 0)
unfolding header_tests segment_tests field header_at
nothing_is_short = refl

zeros_are_no_elf : file_fault (replicate 64 0) ≡ Some NotElf
unfolding header_tests segment_tests field header_at
zeros_are_no_elf = refl

-- the whole header of a file without program headers
header_alone : file_fault (file_header 0) ≡ None
unfolding header_tests segment_tests field header_at
header_alone = refl

header_without_its_program_header : file_fault (file_header 1) ≡ Some (Short 64)
unfolding header_tests segment_tests field header_at
header_without_its_program_header = refl

-- so many bytes of the file, and so many addresses from the one on
abbrev segment : ℕ → ℕ → ℕ → PlacedSegment
segment at filesz memsz = record { offset = 0; at = at; bytes = replicate filesz 7; size = memsz; flags = 5 }

more_in_the_file_than_in_memory : file_fault (file_header 1 ++ program_header (segment 0x80000000 5 4)) ≡ Some (NotThis FileSize 5)
unfolding header_tests segment_tests field header_at
more_in_the_file_than_in_memory = refl

behind_ram : file_fault (file_header 1 ++ program_header (segment 0x8fffffff 2 2)) ≡ Some (OutsideRam 0)
unfolding header_tests segment_tests field header_at
behind_ram = refl

-- no addresses are anywhere
no_addresses : file_fault (file_header 1 ++ program_header (segment 0 0 0)) ≡ None
unfolding header_tests segment_tests field header_at
no_addresses = refl

-- the second and the third both share an address with the first, and with one another
first_clash : file_fault (file_header 3 ++ (program_header (segment 0x80000000 0 16) ++ (program_header (segment 0x80000008 0 16) ++ program_header (segment 0x80000008 0 4))))
    ≡ Some (Clash 0 1)
unfolding header_tests segment_tests field header_at
first_clash = refl

-- the byte 127 with which the file begins, as the first byte of memory
first_byte : load (file_header 1 ++ program_header (segment 0x80000000 1 2)) 0x80000000 ≡ Some 127
unfolding is_loadable header_tests segment_tests field header_at
first_byte = refl

zero_behind : load (file_header 1 ++ program_header (segment 0x80000000 1 2)) 0x80000001 ≡ Some 0
unfolding is_loadable header_tests segment_tests field header_at
zero_behind = refl

zero_elsewhere : load (file_header 1 ++ program_header (segment 0x80000000 1 2)) 0x80000002 ≡ Some 0
unfolding is_loadable header_tests segment_tests field header_at
zero_elsewhere = refl
