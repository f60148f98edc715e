use Rattle.elf_file.proofs.Loads.{ReadSoFar}
use Rattle.elf_file.proofs.reading.read_loads.Given as goal

abbrev pub invariant-loop-number : goal.invariant-loop-number
invariant-loop-number l = ReadSoFar l.bytes l.number l.headers.items
