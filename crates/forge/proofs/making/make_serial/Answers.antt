-- The run under the drawn schedule is what the files are made from.
use Rattle.std.proofs.Common.{map}
use Rattle.region_plan.specs.Views.{work_of}
use Rattle.hart_task.specs.Log.{log_seen}
use Rattle.forge.specs.Generated.{drawn}
use Rattle.forge.proofs.Generating.{run_under}
use Rattle.forge.proofs.making.make_serial.Goals as goal

pub make_files-requires-clause-logs : goal.make_files-requires-clause-logs
make_files-requires-clause-logs c = let run = c.in_ok-logs.ensures.run in (c.args.seed, run.0, run.1)

pub returns : goal.returns
returns c = record {
  run = run_under (work_of c.args.job.now) c.args.trees.now c.args.seed drawn (map log_seen c.in_ok-logs.logs.items) c.make_files.result c.in_ok-logs.ensures.run c.make_files.ensures.files;
}
