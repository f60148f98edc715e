use Rattle.std.proofs.Common.{sym}
use Rattle.region_plan.proofs.Registers.{among_registers}
use Rattle.region_plan.proofs.register_set.RegisterSet.contains.Goals as goal

pub returns : goal.returns
returns c = sym (among_registers c.args.self.now.has c.args.register c.requires)
