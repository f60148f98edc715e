use Rattle.std.proofs.Common.{◌≡◌, ◌+◌, ◌-◌, ◌%◌, ap, get_or, ◌∙◌, Some, leb, ltb, ◌&&◌, true, false, is_some}
use Rattle.std.specs.Prelude.{if◌then◌else◌}
use Rattle.rv_fields.specs.Memory.{ram_start}
use Rattle.ram_image.specs.Ram.{memory, is_reserved, page_at}
use Rattle.ram_image.proofs.Pages.{byte_of, page_at_is, page_written, kept_there}
use Rattle.ram_image.proofs.ram.Ram.put.Goals as goal

-- the page that is written
page_is : (c : goal.After-self-in-Some-2-1) → page_at c.args.self.now.pages.items c.args.at ≡ Some c.in-Some.kept
page_is c =
    page_at_is c.args.self.now.pages.items c.args.at c.index_mut.result.now c.requires.inside.0 c.requires.inside.1 c.args.self.now.whole
    c.index_mut.ensures.value
    ∙ c.in-Some.is

pub returns-in-Some-clause-put : goal.returns-in-Some-clause-put
unfolding memory byte_of
returns-in-Some-clause-put c a =
    let first = (c.args.at - ram_start) % 4096 in
    let past = first + (c.args.to - c.args.at) in
    page_written c.args.self.now.pages.items c.args.at c.args.to c.args.bytes.now c.in-Some.kept _ a
    c.requires.inside.0 c.requires.inside.1 c.requires.page c.args.self.now.whole (page_is c)
    (λ k. c.put_in.ensures k ∙ ap (λ xs. if leb first k && ltb k past then get_or c.args.bytes.now (k - first) 0 else get_or xs k 0) c.deref_mut.ensures.value)

pub returns-in-Some-clause-stays : goal.returns-in-Some-clause-stays
unfolding is_reserved
returns-in-Some-clause-stays c a kept =
    kept_there c.args.self.now.pages.items c.args.at _ a c.requires.inside.1 c.args.self.now.whole kept

-- room was made for the page, so there is one
pub returns-in_default-clause-put : goal.returns-in_default-clause-put
unfolding is_reserved
returns-in_default-clause-put c a =
    let page = page_at_is c.args.self.now.pages.items c.args.at c.index_mut.result.now c.requires.inside.0 c.requires.inside.1 c.args.self.now.whole
    c.index_mut.ensures.value in
    let none : is_some (page_at c.args.self.now.pages.items c.args.at) ≡ false = ap is_some (page ∙ c.in_default.is) in
    let some : is_some (page_at c.args.self.now.pages.items c.args.at) ≡ true = c.requires.reserved in
    absurd cc
