use Rattle.ram_image.proofs.Numbers.{part_of}
use Rattle.ram_image.proofs.ram.part.Goals as goal

pub returns-clause-bytes : goal.returns-clause-bytes
returns-clause-bytes c k below = rw (c.min.ensures, c.min-2.ensures) (part_of c.args.bytes.now c.args.from c.args.to k c.requires below)
