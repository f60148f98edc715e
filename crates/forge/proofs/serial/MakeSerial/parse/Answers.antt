use Rattle.std.proofs.Common.{◌≡◌, map, string_bytes, [], ◌∷◌, sym, ◌∙◌, arith}
use Rattle.std.proofs.lemmas.Grind.{common_steps}
use Rattle.forge.proofs.Names.{six, too_few, too_many, is_making, is_no_making, apart}
use Rattle.forge.proofs.serial.MakeSerial.parse.Goals as goal
use Rattle.forge.proofs.serial.MakeSerial.parse.Goals.{in_default-via-then-words-lt6, in_default-via-else-words-lt6+else-words-lt7}

pub returns-in_default : goal.returns-in_default
returns-in_default c =
    elim c.in_default.branch [
      | in_default-via-then-words-lt6 w ↦ grind (arith, common_steps, too_few, too_many)
      | in_default-via-else-words-lt6+else-words-lt7 w ↦ grind (arith, common_steps, too_few, too_many)
    ]

pub returns-then-not-are_files : goal.returns-then-not-are_files
returns-then-not-are_files c =
    let s = six c.args.words.now c.job-item.result c.trees-item.result c.seed-item.result c.elf-item.result
    c.order-item.result c.trace-item.result c.in-len6.len_at_least c.in-len6.len_below c.job-item.is c.trees-item.is
    c.seed-item.is c.elf-item.is c.order-item.is c.trace-item.is in
    let m : map string_bytes c.args.words.now ≡ c.as_str.result.now ∷ c.as_str-2.result.now ∷ c.deref.result.now
    ∷ c.as_str-3.result.now ∷ c.as_str-4.result.now ∷ c.as_str-5.result.now ∷ [] = rw s (cc) in
    sym (is_no_making (map string_bytes c.args.words.now) c.as_str.result.now c.as_str-2.result.now c.deref.result.now
    c.as_str-3.result.now c.as_str-4.result.now c.as_str-5.result.now c.in_ok-seed.seed m (sym c.in_ok-seed.was ∙ c.seed_of.ensures)
    (sym c.are_files.ensures ∙ c.if-not-are_files.true))

pub invariant_of-result : goal.invariant_of-result
invariant_of-result c =
    let h = apart c.as_str.result.now c.as_str-2.result.now c.as_str-3.result.now c.as_str-4.result.now c.as_str-5.result.now
    (sym c.are_files.ensures ∙ c.if-not-are_files.false) in
    record { elf_order = h.0; elf_trace = h.1; order_trace = h.2 }

pub returns : goal.returns
returns c =
    let s = six c.args.words.now c.job-item.result c.trees-item.result c.seed-item.result c.elf-item.result
    c.order-item.result c.trace-item.result c.in-len6.len_at_least c.in-len6.len_below c.job-item.is c.trees-item.is
    c.seed-item.is c.elf-item.is c.order-item.is c.trace-item.is in
    let m : map string_bytes c.args.words.now ≡ c.as_str.result.now ∷ c.as_str-2.result.now ∷ c.deref.result.now
    ∷ c.as_str-3.result.now ∷ c.as_str-4.result.now ∷ c.as_str-5.result.now ∷ [] = rw s (cc) in
    sym (is_making (map string_bytes c.args.words.now) c.as_str.result.now c.as_str-2.result.now c.deref.result.now
    c.as_str-3.result.now c.as_str-4.result.now c.as_str-5.result.now c.in_ok-seed.seed m (sym c.in_ok-seed.was ∙ c.seed_of.ensures)
    (sym c.are_files.ensures ∙ c.if-not-are_files.false))
