use Rattle.value_file.specs.Values.{initial_of}
use Rattle.boot_words.proofs.Table.{IsTableUpTo}
use Rattle.boot_words.proofs.start.registers.Given as goal

abbrev pub invariant-loop-place : goal.invariant-loop-place
invariant-loop-place l = IsTableUpTo (initial_of l.values) l.place l.x
