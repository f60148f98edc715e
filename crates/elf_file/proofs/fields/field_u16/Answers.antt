use Rattle.std.proofs.Common.{◌∙◌}
use Rattle.elf_file.proofs.Numbers.{number_is_field}
use Rattle.elf_file.proofs.fields.field_u16.Goals as goal

pub returns : goal.returns
returns c = c.read_u16.ensures ∙ number_is_field c.args.bytes.now c.args.at 2 c.requires
