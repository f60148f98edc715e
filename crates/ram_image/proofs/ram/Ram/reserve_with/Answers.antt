use Rattle.std.proofs.Common.{◌≡◌, Option, Some, None, arith, false, is_some, refl}
use Rattle.ram_image.specs.Ram.{memory, is_reserved, page_at}
use Rattle.ram_image.proofs.Pages.{byte_of, zeros_placed, kept_here, kept_there}
use Rattle.ram_image.proofs.Spans.{in_ram_parts}
use Rattle.ram_image.proofs.ram.Ram.reserve_with.Goals as goal

none_of : {A : Type 0} (m : Option A) → is_some m ≡ false → m ≡ None
none_of None none = refl
none_of (Some a) none = absurd cc

pub returns-clause-same : goal.returns-clause-same
unfolding memory byte_of is_reserved
returns-clause-same c a =
    let inside = in_ram_parts c.args.at 1 c.requires.inside in
    zeros_placed c.args.self.now.pages.items c.args.at c.args.spare.zeros a inside.0 (omega arith) c.args.self.now.whole
    (none_of (page_at c.args.self.now.pages.items c.args.at) c.requires.unreserved) c.args.spare.zeros_are

pub returns-clause-reserved : goal.returns-clause-reserved
unfolding is_reserved
returns-clause-reserved c a same =
    let inside = in_ram_parts c.args.at 1 c.requires.inside in
    kept_here c.args.self.now.pages.items c.args.at a c.args.spare.zeros inside.0 (omega arith) c.args.self.now.whole same

pub returns-clause-stays : goal.returns-clause-stays
unfolding is_reserved
returns-clause-stays c a kept =
    let inside = in_ram_parts c.args.at 1 c.requires.inside in
    kept_there c.args.self.now.pages.items c.args.at c.args.spare.zeros a (omega arith) c.args.self.now.whole kept
