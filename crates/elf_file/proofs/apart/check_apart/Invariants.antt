use Rattle.std.proofs.Common.{◌≡◌, [], take, None}
use Rattle.elf_file.specs.Faults.{first_failed, apart_tests}
use Rattle.elf_file.specs.Taken.{AreTaken}
use Rattle.elf_file.proofs.apart.check_apart.Given as goal

abbrev pub invariant-loop-place : goal.invariant-loop-place
invariant-loop-place l = record {
  taken : AreTaken (take l.place l.headers) l.ends;
  apart : first_failed (apart_tests [] (take l.place l.headers)) ≡ None;
}
