use Rattle.std.proofs.Common.{◌≡◌, ◌≤◌, vec_len}
use Rattle.store_face.proofs.disk.read_file.Given as goal

abbrev pub invariant-loop : goal.invariant-loop
invariant-loop g l = record { room : vec_len l.into ≤ l.most; whole : vec_len l.chunk ≡ 65536 }
