use Rattle.std.proofs.Common.{◌≡◌, ◌≤◌, ◌+◌, ◌-◌, ◌*◌, ◌^◌, ◌++◌, length, drop}
use Rattle.ram_image.specs.Segments.{stretches}
use Rattle.elf_file.specs.Writing.{placed, headers_size}
use Rattle.elf_file.specs.Placing.{laid_from, BeginsWith}
use Rattle.elf_file.proofs.writing.append_segments.Given as goal

abbrev pub invariant-loop-segment : goal.invariant-loop-segment
invariant-loop-segment l = record {
  low : l.end ≤ 2 ^ 29 * (l.segment-index + 1);
  started : l.start ≤ length l.into.items;
  before : length l.into.items ≤ l.start + l.end;
  bytes : l.into.items ++ laid_from (length l.into.items - l.start) (placed l.end (stretches (drop l.segment-index l.segments)))
      ≡ l.fn.into.items ++ laid_from (headers_size (length l.segments)) (placed (headers_size (length l.segments)) (stretches l.segments));
  kept : BeginsWith l.fn.into.items l.into.items;
}
