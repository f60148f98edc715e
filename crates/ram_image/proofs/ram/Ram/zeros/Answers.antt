use Rattle.ram_image.specs.Ram.{memory}
use Rattle.ram_image.proofs.Pages.{byte_of, nothing_kept}
use Rattle.ram_image.proofs.ram.Ram.zeros.Goals as goal

pub returns : goal.returns
unfolding memory byte_of
returns c a = nothing_kept c.loop.pages.items a c.loop.invariant.none
