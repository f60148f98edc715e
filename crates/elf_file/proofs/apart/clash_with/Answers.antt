use Rattle.std.proofs.Common.{arith, ◌∙◌, sym}
use Rattle.elf_file.proofs.FirstFault.{first_fault-apart}
use Rattle.elf_file.proofs.Clashes.{no_clash_none, no_clash_free}
use Rattle.elf_file.proofs.apart.clash_with.Goals as goal
use Rattle.elf_file.proofs.apart.clash_with.Goals.{else-header-gt0-via-then-header-gt0+else-is_taken, else-header-gt0-via-else-header-gt0}

pub returns-then-is_taken : goal.returns-then-is_taken
returns-then-is_taken c = c.first_clash.ensures ∙ sym (first_fault-apart c.args.header.now c.args.before.now)

pub returns-else-header-gt0 : goal.returns-else-header-gt0
returns-else-header-gt0 c =
    elim c.else-header-gt0.branch [
      | else-header-gt0-via-then-header-gt0+else-is_taken w ↦ sym (no_clash_free c.args.header.now c.args.before.now c.args.ends.now c.requires.taken (λ taken. let no = w.if-is_taken.ensures.1 taken in cc))
      | else-header-gt0-via-else-header-gt0 w ↦ sym (no_clash_none c.args.header.now c.args.before.now (omega (arith, w.if-header-gt0.false)))
    ]
