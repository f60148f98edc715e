use Rattle.std.proofs.Common.{◌+◌, ◌*◌}
use Rattle.boot_words.proofs.Words.{IsBlockUpTo}
use Rattle.boot_words.proofs.block.boot_block.Given as goal

abbrev pub invariant-loop-place : goal.invariant-loop-place
invariant-loop-place l = IsBlockUpTo (2 * l.place + 1) l.words

abbrev pub invariant-loop-place-2 : goal.invariant-loop-place-2
invariant-loop-place-2 l = IsBlockUpTo (31 + l.place) l.words
