-- What a file is loaded as: a byte for each address, read from the file's bytes alone.
use Rattle.std.specs.Prelude.{ℕ, List, take, drop, map, Bool, Option, Some, None, if◌then◌else◌}
use Rattle.std.specs.List.{list_all}
use Rattle.ram_image.specs.Segments.{Stretch, memory_of}
use Rattle.elf_file.specs.declared.fields.ProgramHeader.{ProgramHeader}
use Rattle.elf_file.specs.Headers.{loads}
use Rattle.elf_file.specs.Faults.{tests}

-- The file has no fault: it is a program for this machine, its segments are whole, and no two share an address.
unfoldable pub is_loadable : List ℕ → Bool
is_loadable file = list_all (λ t. t.holds) (tests file)

-- the segment of memory that a program header tells of: its bytes in the file, and zeros behind them
abbrev pub segment_in : List ℕ → ProgramHeader → Stretch
segment_in file h = record { at = h.paddr; bytes = take h.filesz (drop h.offset file); size = h.memsz; flags = h.flags }

abbrev pub segments_in : List ℕ → List Stretch
segments_in file = map (segment_in file) (loads file)

-- the byte that the file is loaded as at the address; none where the file has a fault
abbrev pub load : List ℕ → ℕ → Option ℕ
load file a = if is_loadable file then Some (memory_of (segments_in file) a) else None
