-- The bytes, and those of the words that are left, are the whole.
use Rattle.std.proofs.Common.{◌≡◌, ◌++◌, drop}
use Rattle.run_merge.specs.Image.{word_bytes}
use Rattle.run_merge.proofs.segments.lay_words.Given as goal

abbrev pub invariant-loop-word : goal.invariant-loop-word
invariant-loop-word l = l.bytes.items ++ word_bytes (drop l.word-index l.words) ≡ l.initial.bytes.items ++ word_bytes l.words
