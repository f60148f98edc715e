use Rattle.region_plan.specs.Views.{work_of}
use Rattle.forge.specs.Stops.{making_seen}
use Rattle.forge.proofs.Reading.{made_from, read_so}
use Rattle.forge.proofs.serial.MakeSerial.make_from.Goals as goal

pub returns-clause-made : goal.returns-clause-made
returns-clause-made c =
    let run = c.in_ok-make_serial.ensures.run in
    made_from (making_seen c.args.self.now) c.args.job.now c.args.trees.now c.in_ok-make_serial.field-0 (work_of c.in_ok-job.job) _ run.0
    (read_so work_of _ c.read_job.result c.map_err.result c.in_ok-job.job _ c.read_job.ensures.job c.map_err.ensures.cases c.map_err.ensures.variant c.in_ok-job.was)
    (read_so (λ trees. trees) _ c.read.result c.map_err-2.result c.in_ok-trees.trees _ c.read.ensures c.map_err-2.ensures.cases c.map_err-2.ensures.variant c.in_ok-trees.was) run.1 run.2
