use Rattle.std.proofs.Common.{◌<◌, ap, sym, ◌∙◌, arith, is_some}
use Rattle.rv_fields.specs.Memory.{ram_end}
use Rattle.ram_image.specs.Ram.{is_reserved}
use Rattle.ram_image.proofs.Pages.{page_at_is}
use Rattle.ram_image.proofs.Spans.{in_ram_parts}
use Rattle.ram_image.proofs.ram.Ram.is_reserved.Goals as goal

pub returns : goal.returns
unfolding is_reserved
returns c =
    let inside = in_ram_parts c.args.at 1 c.requires in
    let within : c.args.at < ram_end = omega arith in
    c.is_some.ensures
    ∙ sym (ap is_some (page_at_is c.args.self.now.pages.items c.args.at c.index.result.now inside.0 within c.args.self.now.whole c.index.ensures))
