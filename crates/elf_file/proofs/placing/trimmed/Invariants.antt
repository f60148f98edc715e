use Rattle.std.proofs.Common.{◌≡◌, length}
use Rattle.elf_file.specs.Writing.{trimmed as bytes_trimmed}
use Rattle.elf_file.proofs.placing.trimmed.Given as goal

abbrev pub invariant-loop-bytes : goal.invariant-loop-bytes
invariant-loop-bytes l = bytes_trimmed l.bytes ≡ bytes_trimmed l.fn.bytes

abbrev pub decreases-loop-bytes : goal.decreases-loop-bytes
decreases-loop-bytes l = length l.bytes
