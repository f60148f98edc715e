use Rattle.elf_file.proofs.Numbers.{byte_is_field}
use Rattle.elf_file.proofs.fields.field_u8.Goals as goal

pub returns : goal.returns
returns c = byte_is_field c.args.bytes.now c.args.at c.requires
