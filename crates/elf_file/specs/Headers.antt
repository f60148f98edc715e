-- What the headers of a file say, read from the file's bytes alone.
use Rattle.std.specs.Prelude.{ℕ, zero, suc, ◌+◌, ◌*◌, List, [], ◌∷◌, take, drop, filter, Bool, ◌==◌}
use Rattle.rv_fields.specs.Memory.{number_of}
use Rattle.elf_file.specs.declared.fields.ProgramHeader.{ProgramHeader}

-- the number in so many bytes of the file, the lowest first
unfoldable pub field : List ℕ → ℕ → ℕ → ℕ
field file at size = number_of (take size (drop at file))

-- where the program headers begin, and how many there are
abbrev pub header_offset : List ℕ → ℕ
header_offset file = field file 32 8

abbrev pub header_count : List ℕ → ℕ
header_count file = field file 56 2

-- the program header that begins at the offset, which is the one of this number
abbrev pub header_in : List ℕ → ℕ → ℕ → ProgramHeader
header_in file at number = record {
  number = number;
  kind = field file at 4;
  flags = field file (at + 4) 4;
  offset = field file (at + 8) 8;
  paddr = field file (at + 24) 8;
  filesz = field file (at + 32) 8;
  memsz = field file (at + 40) 8;
}

-- the program header of the number: they stand one behind another, each of 56 bytes
unfoldable pub header_at : List ℕ → ℕ → ProgramHeader
header_at file number = header_in file (header_offset file + 56 * number) number

-- so many program headers, from this number on
abbrev pub headers_from : List ℕ → ℕ → ℕ → List ProgramHeader
headers_from file number zero = []
headers_from file number (suc count) = header_at file number ∷ headers_from file (number + 1) count

-- a segment to load; other kinds are passed over
abbrev pub is_load : ProgramHeader → Bool
is_load h = h.kind == 1

abbrev pub loads : List ℕ → List ProgramHeader
loads file = filter is_load (headers_from file 0 (header_count file))
