use Rattle.region_plan.proofs.Registers.{none_there}
use Rattle.region_plan.proofs.register_set.RegisterSet.empty.Goals as goal

pub returns : goal.returns
returns c = none_there
