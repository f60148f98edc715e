use Rattle.elf_file.proofs.Whole.{small_segments, load_segments}
use Rattle.elf_file.proofs.writing.write_elf.Goals as goal

pub append_elf-written-requires-clause-small : goal.append_elf-written-requires-clause-small
append_elf-written-requires-clause-small c = small_segments c.args.segments.now c.requires.sound

pub returns-then-is_err-clause-loaded : goal.returns-then-is_err-clause-loaded
returns-then-is_err-clause-loaded c = load_segments c.args.segments.now c.requires.count c.requires.sound

pub returns-else-is_err-clause-loaded : goal.returns-else-is_err-clause-loaded
returns-else-is_err-clause-loaded c = load_segments c.args.segments.now c.requires.count c.requires.sound
