use Rattle.std.proofs.Common.{◌≡◌, ◌++◌, ℕ, length, drop, map}
use Rattle.std.specs.Prelude.{if◌then◌else◌}
use Rattle.rv_fields.specs.Memory.{in_ram}
use Rattle.ram_image.specs.Ram.{memory}
use Rattle.ram_image.specs.Segments.{memory_of}
use Rattle.elf_file.specs.Loading.{segment_in}
use Rattle.elf_file.proofs.reading.lay_segments.Given as goal

-- the segments from the back up to those that are left are laid
abbrev pub invariant-loop-header : goal.invariant-loop-header
invariant-loop-header l =
    let left = l.header-iterator.iter.rest.now in
    record {
      order : left ++ drop (length left) l.headers ≡ l.headers;
      laid : (a : ℕ) → memory l.ram a ≡ (if in_ram a 1 then memory_of (map (segment_in l.bytes) (drop (length left) l.headers)) a else 0);
    }
