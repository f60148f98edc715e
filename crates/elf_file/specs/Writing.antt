-- The file that is written for segments: a header, a program header for each segment, and their bytes.
use Rattle.std.specs.Prelude.{ℕ, ◌+◌, ◌-◌, ◌*◌, ◌/◌, List, [], ◌∷◌, ◌++◌, length, map, filter, Bool, not, ◌==◌, ◌&&◌, if◌then◌else◌}
use Rattle.std.specs.List.{flat_map}
use Rattle.std.specs.Int.{w16, w32, w64, to_le_bytes}
use Rattle.rv_fields.specs.Play.{reset_pc}
use Rattle.ram_image.specs.Pieces.{Piece, laid}
use Rattle.ram_image.specs.Segments.{Stretch}

-- a byte before others, left out where all of them are zero
abbrev pub before_rest : ℕ → List ℕ → List ℕ
before_rest b rest = if b == 0 && length rest == 0 then [] else b ∷ rest

-- the bytes up to the last that isn't zero
abbrev pub trimmed : List ℕ → List ℕ
trimmed [] = []
trimmed (b ∷ bs) = before_rest b (trimmed bs)

-- the page size of a file, to which each segment is aligned
abbrev pub page : ℕ
page = 4096

-- the first multiple of the page size that isn't below
abbrev pub page_from : ℕ → ℕ
page_from n = (n + (page - 1)) / page * page

-- a segment with the offset of its bytes in the file
pub record PlacedSegment : Type 0 where
  pub offset : ℕ
  pub at : ℕ
  pub bytes : List ℕ
  pub size : ℕ
  pub flags : ℕ

abbrev pub placed_segment : ℕ → Stretch → PlacedSegment
placed_segment offset s = record { offset = offset; at = s.at; bytes = trimmed s.bytes; size = s.size; flags = s.flags }

-- Segments whose bytes follow one another, each from a new page on, in a file that has so many bytes already.
abbrev pub placed : ℕ → List Stretch → List PlacedSegment
placed end [] = []
placed end (s ∷ ss) = placed_segment (page_from end) s ∷ placed (page_from end + length (trimmed s.bytes)) ss

-- the lengths of the file's header and of a program header
abbrev pub header_size : ℕ
header_size = 64

abbrev pub entry_size : ℕ
entry_size = 56

-- The header: ELF64, little endian, an executable for RISC-V that begins where harts do at reset, with so
-- many program headers right behind this header, and no sections.
abbrev pub file_header : ℕ → List ℕ
file_header count =
    (0x7f ∷ 0x45 ∷ 0x4c ∷ 0x46 ∷ 2 ∷ 1 ∷ 1 ∷ 0 ∷ 0 ∷ 0 ∷ 0 ∷ 0 ∷ 0 ∷ 0 ∷ 0 ∷ 0 ∷ [])
    ++ to_le_bytes w16 2 ++ to_le_bytes w16 243 ++ to_le_bytes w32 1
    ++ to_le_bytes w64 reset_pc ++ to_le_bytes w64 header_size ++ to_le_bytes w64 0
    ++ to_le_bytes w32 0 ++ to_le_bytes w16 header_size ++ to_le_bytes w16 entry_size ++ to_le_bytes w16 count
    ++ to_le_bytes w16 0 ++ to_le_bytes w16 0 ++ to_le_bytes w16 0

-- a segment to load: its flags, offset, virtual and physical address, its sizes in the file and in memory
abbrev pub program_header : PlacedSegment → List ℕ
program_header p =
    to_le_bytes w32 1 ++ to_le_bytes w32 p.flags ++ to_le_bytes w64 p.offset
    ++ to_le_bytes w64 p.at ++ to_le_bytes w64 p.at
    ++ to_le_bytes w64 (length p.bytes) ++ to_le_bytes w64 p.size ++ to_le_bytes w64 page

abbrev pub has_bytes : PlacedSegment → Bool
has_bytes p = not (length p.bytes == 0)

-- the bytes of a segment as a piece of the file
abbrev pub file_piece : PlacedSegment → Piece
file_piece p = record { at = p.offset; bytes = p.bytes }

abbrev pub headers_size : ℕ → ℕ
headers_size count = header_size + entry_size * count

-- the file of placed segments: it ends with the last of their bytes
abbrev pub file_of : List PlacedSegment → List ℕ
file_of ps = file_header (length ps) ++ flat_map program_header ps
    ++ laid (headers_size (length ps)) (map file_piece (filter has_bytes ps))

abbrev pub elf_of : List Stretch → List ℕ
elf_of ss = file_of (placed (headers_size (length ss)) ss)
