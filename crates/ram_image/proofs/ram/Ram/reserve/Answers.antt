use Rattle.std.proofs.Common.{◌≡◌, ◌≤◌, ◌-◌, ◌/◌, ap, sym, ◌∙◌, arith, is_some}
use Rattle.rv_fields.specs.Memory.{ram_start}
use Rattle.ram_image.specs.Ram.{is_reserved}
use Rattle.ram_image.proofs.Pages.{page_at_same}
use Rattle.ram_image.proofs.Spans.{in_ram_parts}
use Rattle.ram_image.proofs.ram.Ram.reserve.Goals as goal

pub returns-else-not-is_reserved-clause-reserved : goal.returns-else-not-is_reserved-clause-reserved
unfolding is_reserved
returns-else-not-is_reserved-clause-reserved c a in_it same =
    let at = c.args.at in
    let inside = in_ram_parts at 1 in_it in
    let a_inside : ram_start ≤ a = omega arith in
    let place : (a - ram_start) / 4096 ≡ (at - ram_start) / 4096 = omega arith in
    ap is_some (page_at_same c.args.self.now.pages.items at a a_inside inside.0 place) ∙ sym c.is_reserved.ensures ∙ c.if-not-is_reserved.false
