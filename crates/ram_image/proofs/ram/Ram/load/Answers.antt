use Rattle.std.proofs.Common.{◌≡◌, ◌+◌, ◌-◌, ◌%◌, ◌<◌, ap, sym, ◌∙◌, arith, true, None, Some, length, take, drop}
use Rattle.rv_fields.specs.Memory.{ram_start, ram_end, in_ram, number_of}
use Rattle.ram_image.specs.Ram.{memory, page_at}
use Rattle.ram_image.proofs.Pages.{page_at_is, byte_of, byte_behind}
use Rattle.ram_image.proofs.Spans.{in_ram_parts}
use Rattle.ram_image.proofs.Numbers.{told_inside, part_of_page, number_of_nothing}
use Rattle.ram_image.proofs.ram.Ram.load.Goals as goal

pub returns-then-past-gt-PAGE_SIZE-clause-value : goal.returns-then-past-gt-PAGE_SIZE-clause-value
returns-then-past-gt-PAGE_SIZE-clause-value c =
    told_inside (memory c.args.self.now) c.args.at c.args.size c.number_by_bytes.result
    (ap (in_ram c.args.at) (sym c.from.ensures) ∙ sym c.in_ram.ensures ∙ c.if-not-in_ram.false)
    c.number_by_bytes.ensures.number

pub returns-in-Some-clause-value : goal.returns-in-Some-clause-value
unfolding memory byte_of
returns-in-Some-clause-value c =
    let at = c.args.at in
    let size = c.args.size in
    let pages = c.args.self.now.pages.items in
    let inside : in_ram at size ≡ true = ap (in_ram at) (sym c.from.ensures) ∙ sym c.in_ram.ensures ∙ c.if-not-in_ram.false in
    let parts = in_ram_parts at size inside in
    let within : at < ram_end = omega arith in
    let first = (at - ram_start) % 4096 in
    let page : page_at pages at ≡ Some c.in-Some.bytes =
    page_at_is pages at c.index.result.now parts.0 within c.args.self.now.whole c.index.ensures ∙ c.in-Some.is in
    let bytes = c.in-Some.bytes.value in
    let told : length c.deref.result.now ≡ 4096 = omega arith in
    let long : length bytes ≡ 4096 = ap length (sym c.deref.ensures) ∙ told in
    let past = first + c.from-2.result in
    let spelled : c.number_of.result ≡ number_of (take (past - first) (drop first bytes)) =
    c.number_of.ensures.number ∙ ap (λ xs. number_of (take (past - first) (drop first xs))) c.deref.ensures in
    told_inside (memory c.args.self.now) at size c.number_of.result inside
    (spelled ∙ ap number_of (sym (part_of_page (memory c.args.self.now) at size first past bytes (omega arith) (omega arith) (λ k below.
    byte_behind pages at k (Some c.in-Some.bytes) parts.0 (omega arith) page))))

pub returns-in-None-clause-value : goal.returns-in-None-clause-value
unfolding memory byte_of
returns-in-None-clause-value c =
    let at = c.args.at in
    let size = c.args.size in
    let pages = c.args.self.now.pages.items in
    let inside : in_ram at size ≡ true = ap (in_ram at) (sym c.from.ensures) ∙ sym c.in_ram.ensures ∙ c.if-not-in_ram.false in
    let parts = in_ram_parts at size inside in
    let within : at < ram_end = omega arith in
    let first = (at - ram_start) % 4096 in
    let page : page_at pages at ≡ None =
    page_at_is pages at c.index.result.now parts.0 within c.args.self.now.whole c.index.ensures ∙ c.in-None.is in
    told_inside (memory c.args.self.now) at size 0 inside
    (number_of_nothing (memory c.args.self.now) at size (λ k below. byte_behind pages at k None parts.0 (omega arith) page))
