use Rattle.std.proofs.Common.{ap, sym, ◌-◌, ◌%◌, get_or, ◌∙◌, arith}
use Rattle.rv_fields.specs.Memory.{ram_start}
use Rattle.ram_image.specs.Ram.{memory, page_byte}
use Rattle.ram_image.proofs.Pages.{page_at_is}
use Rattle.ram_image.proofs.Spans.{in_ram_parts}
use Rattle.ram_image.proofs.ram.Ram.byte.Goals as goal

pub returns-in-Some : goal.returns-in-Some
unfolding memory
returns-in-Some c =
    let inside = in_ram_parts c.args.at 1 c.requires in
    let page = page_at_is c.args.self.now.pages.items c.args.at c.index.result.now inside.0 (omega arith) c.args.self.now.whole c.index.ensures in
    let place = (c.args.at - ram_start) % 4096 in
    ap (λ xs. get_or xs place 0) c.deref.ensures ∙ sym (ap (λ p. page_byte p place) (page ∙ c.in-Some.is))

pub returns-in-None : goal.returns-in-None
unfolding memory
returns-in-None c =
    let inside = in_ram_parts c.args.at 1 c.requires in
    let page = page_at_is c.args.self.now.pages.items c.args.at c.index.result.now inside.0 (omega arith) c.args.self.now.whole c.index.ensures in
    sym (ap (λ p. page_byte p ((c.args.at - ram_start) % 4096)) (page ∙ c.in-None.is))
