use Rattle.ram_image.proofs.Pages.{page_put, zeros_behind}
use Rattle.ram_image.proofs.ram.put_in.Goals as goal

pub returns : goal.returns
returns c k =
    let zeros = zeros_behind c.args.page.now c.args.bytes.now c.copy_from_slice.new.self c.fill.new.self c.args.first c.args.past
    c.requires.room c.requires.inside c.copy_from_slice.ensures.after (c.fill.ensures.after (λ y same. same)) in
    rw c.copy_from_slice.ensures.after
    (page_put c.args.page.now c.args.bytes.now c.fill.new.self c.args.first c.args.past k c.requires.room c.requires.inside zeros)
