use Rattle.std.proofs.Common.{◌≡◌, ◌-◌, ◌+◌, get_or, ap, sym, ◌∙◌, arith, inl, inr, None, false, is_some, length}
use Rattle.std.proofs.lemmas.Bool.{cases_lt, eqb-true}
use Rattle.std.proofs.lemmas.List.{get_or_past}
use Rattle.ram_image.specs.Ram.{Page, memory, is_reserved, page_at}
use Rattle.ram_image.proofs.Pages.{byte_of, byte_behind, if_inside, if_below, if_past}
use Rattle.ram_image.proofs.ram.Ram.lay_part.Goals as goal

no_page : (page : Page) → is_some page ≡ false → page ≡ None
no_page page none = grind arith

-- where there are no bytes and no page is kept, the zeros are there already
pub returns-then-not-is_reserved-clause-laid : goal.returns-then-not-is_reserved-clause-laid
unfolding memory byte_of is_reserved
returns-then-not-is_reserved-clause-laid c a =
    let at = c.args.at in
    let to = c.args.to in
    let bytes = c.args.bytes.now in
    let pages = c.args.self.now.pages.items in
    let before = memory c.args.self.now a in
    let laid = get_or bytes (a - at) 0 in
    elim (cases_lt a at) [
      | inl below ↦ sym (if_below at to a laid before below)
      | inr above ↦ elim (cases_lt a to) [
        | inr past ↦ sym (if_past at to a laid before past)
        | inl within ↦
            let here : at + (a - at) ≡ a = omega arith in
            let page : page_at pages at ≡ None = no_page (page_at pages at) (sym c.is_reserved.ensures ∙ c.if-not-is_reserved.true) in
            let zero_before : byte_of pages (at + (a - at)) ≡ 0 = byte_behind pages at (a - at) None c.requires.inside.0 (omega arith) page in
            let empty : length bytes ≡ 0 = eqb-true (length bytes) 0 (sym c.is_empty.ensures ∙ c.if-is_empty.true) in
            let zero_laid : laid ≡ 0 = get_or_past bytes (a - at) 0 (omega arith) in
            ap (byte_of pages) (sym here) ∙ zero_before ∙ sym zero_laid ∙ sym (if_inside at to a laid before above within)
      ]
    ]
