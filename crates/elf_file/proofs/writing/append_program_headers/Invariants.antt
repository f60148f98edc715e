use Rattle.std.proofs.Common.{◌≡◌, ◌≤◌, ◌+◌, ◌*◌, ◌^◌, ◌++◌, length, drop}
use Rattle.std.specs.List.{flat_map}
use Rattle.ram_image.specs.Segments.{stretches}
use Rattle.elf_file.specs.Writing.{placed, headers_size, program_header}
use Rattle.elf_file.specs.Placing.{BeginsWith}
use Rattle.elf_file.proofs.writing.append_program_headers.Given as goal

abbrev pub invariant-loop-segment : goal.invariant-loop-segment
invariant-loop-segment l = record {
  low : l.end ≤ 2 ^ 29 * (l.segment-index + 1);
  headers : l.into.items ++ flat_map program_header (placed l.end (stretches (drop l.segment-index l.segments)))
      ≡ l.fn.into.items ++ flat_map program_header (placed (headers_size (length l.segments)) (stretches l.segments));
  kept : BeginsWith l.fn.into.items l.into.items;
}
