use Rattle.std.proofs.Common.{◌≡◌, ◌≤◌, ℕ, length, drop}
use Rattle.std.specs.Prelude.{if◌then◌else◌}
use Rattle.rv_fields.specs.Memory.{in_ram}
use Rattle.ram_image.specs.Ram.{memory}
use Rattle.ram_image.specs.Segments.{memory_of, stretches}
use Rattle.ram_image.proofs.ram.Ram.from_segments.Given as goal

abbrev pub invariant-loop-left : goal.invariant-loop-left
invariant-loop-left l = record {
  within : l.left ≤ length l.segments;
  laid : (a : ℕ) → memory l.ram a ≡ (if in_ram a 1 then memory_of (stretches (drop l.left l.segments)) a else 0);
}

abbrev pub decreases-loop-left : goal.decreases-loop-left
decreases-loop-left l = l.left
