use Rattle.std.proofs.Common.{◌≡◌, map, string_bytes, [], ◌∷◌, sym, ◌∙◌, arith}
use Rattle.std.proofs.lemmas.Grind.{common_steps}
use Rattle.forge.proofs.Names.{fewer, is_no_replaying, is_replaying, more, three}
use Rattle.forge.proofs.replaying.Replay.parse.Goals as goal
use Rattle.forge.proofs.replaying.Replay.parse.Goals.{in_default-via-then-words-lt3, in_default-via-else-words-lt3+else-words-lt4}

pub returns-in_default : goal.returns-in_default
returns-in_default c =
    elim c.in_default.branch [
      | in_default-via-then-words-lt3 w ↦ grind (arith, common_steps, fewer, more)
      | in_default-via-else-words-lt3+else-words-lt4 w ↦ grind (arith, common_steps, fewer, more)
    ]

pub returns-then-not-are_files : goal.returns-then-not-are_files
returns-then-not-are_files c =
    let s = three c.args.words.now c.elf-item.result c.order-item.result c.trace-item.result c.in-len3.len_at_least c.in-len3.len_below c.elf-item.is
    c.order-item.is c.trace-item.is in
    let m : map string_bytes c.args.words.now ≡ c.as_str.result.now ∷ c.as_str-2.result.now ∷ c.as_str-3.result.now ∷ [] = rw s (cc) in
    sym (is_no_replaying (map string_bytes c.args.words.now) c.as_str.result.now c.as_str-2.result.now c.as_str-3.result.now m
    (sym c.are_files.ensures ∙ c.if-not-are_files.true))

pub returns : goal.returns
returns c =
    let s = three c.args.words.now c.elf-item.result c.order-item.result c.trace-item.result c.in-len3.len_at_least c.in-len3.len_below c.elf-item.is
    c.order-item.is c.trace-item.is in
    let m : map string_bytes c.args.words.now ≡ c.as_str.result.now ∷ c.as_str-2.result.now ∷ c.as_str-3.result.now ∷ [] = rw s (cc) in
    sym (is_replaying (map string_bytes c.args.words.now) c.as_str.result.now c.as_str-2.result.now c.as_str-3.result.now m
    (sym c.are_files.ensures ∙ c.if-not-are_files.false))
