use Rattle.std.proofs.Common.{rules, ◌≡◌, length}
use Rattle.region_plan.specs.Registers.{registers}
use Rattle.region_plan.proofs.Registers.{one_more}
use Rattle.region_plan.proofs.register_set.RegisterSet.with.Goals as goal

pub returns : goal.returns
returns c = let long : length c.args.self.has ≡ registers = search rules in one_more c.args.self.has c.args.register long c.requires
