-- A placed segment as the program holds it, and what is appended for it.
use Rattle.std.specs.Prelude.{ℕ, ◌≡◌, ◌-◌, ◌^◌, ◌≤◌, List, [], ◌++◌, length, take, replicate, map, filter, if◌then◌else◌}
use Rattle.ram_image.specs.Pieces.{laid}
use Rattle.ram_image.specs.declared.segment.Segment.{Segment}
use Rattle.elf_file.specs.declared.placing.Placed.{Placed}
use Rattle.elf_file.specs.Writing as spec

-- a placed segment without where its bytes lie in the generator's memory
abbrev pub view : Placed → spec.PlacedSegment
view p = record { offset = p.offset; at = p.segment.now.at; bytes = p.bytes.now; size = p.segment.now.size; flags = p.segment.now.flags }

-- what is appended for a segment to a file of so many bytes: zeros up to its place, and its bytes
abbrev pub padded_bytes : ℕ → spec.PlacedSegment → List ℕ
padded_bytes from p = if spec.has_bytes p then replicate (p.offset - from) 0 ++ p.bytes else []

-- what is appended for segments to a file of so many bytes
abbrev pub laid_from : ℕ → List spec.PlacedSegment → List ℕ
laid_from from ps = laid from (map spec.file_piece (filter spec.has_bytes ps))

-- bytes that still begin with what they were before
abbrev pub BeginsWith : List ℕ → List ℕ → Type 0
BeginsWith old new = take (length old) new ≡ old

-- no more bytes than RAM has
abbrev pub IsSmall : Segment → Type 0
IsSmall s = length s.bytes.items ≤ 2 ^ 28
