use Rattle.std.proofs.Common.{◌≡◌, ◌≤◌, ◌-◌, ℕ, max, leb, ltb, ◌&&◌, IsTrue}
use Rattle.std.specs.Prelude.{if◌then◌else◌, slice_index}
use Rattle.rv_fields.specs.Memory.{ram_start}
use Rattle.ram_image.specs.Ram.{memory, is_reserved}
use Rattle.ram_image.proofs.ram.Ram.lay.Given as goal

abbrev pub invariant-loop-from : goal.invariant-loop-from
invariant-loop-from l = record {
  begun : max l.at ram_start ≤ l.from;
  ended : l.from ≤ max (max l.at ram_start) l.end;
  laid : (a : ℕ) → memory l.self a ≡ (if leb (max l.at ram_start) a && ltb a l.from then slice_index l.bytes (a - l.at) else memory l.initial.self a);
  stays : (a : ℕ) → IsTrue (is_reserved l.initial.self a) → IsTrue (is_reserved l.self a);
}

abbrev pub decreases-loop-from : goal.decreases-loop-from
decreases-loop-from l = l.end - l.from
