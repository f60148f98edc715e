use Rattle.std.proofs.Common.{◌<◌, length, arith}
use Rattle.sv_walk.proofs.Trails.{one_more}
use Rattle.sv_walk.proofs.trail.Trail.with.Goals as goal

pub returns-clause-entries : goal.returns-clause-entries
returns-clause-entries c =
    let self = c.args.self in
    let in_places : self.len < length self.at = omega arith in
    let in_contents : self.len < length self.pte = omega arith in
    one_more self.at self.pte self.len c.args.at c.args.pte in_places in_contents
