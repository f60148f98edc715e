use Rattle.std.proofs.Common.{◌≡◌, ℕ, ◌+◌, ◌<◌, get_or, length}
use Rattle.ram_image.specs.Ram.{memory}
use Rattle.ram_image.proofs.ram.Ram.number_by_bytes.Given as goal

abbrev pub invariant-loop-index : goal.invariant-loop-index
invariant-loop-index l = record { long : length l.bytes ≡ 8; read : (k : ℕ) → k < l.index → get_or l.bytes k 0 ≡ memory l.self (l.at + k) }
