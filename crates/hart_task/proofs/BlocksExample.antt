-- The premises of the law of blocks can be met: a finished run of a job with one request.
use Rattle.std.proofs.Common.{[], refl, arith}
use Rattle.region_plan.specs.Rules.{KeepsRules}
use Rattle.hart_task.specs.Blocks.{AreBlocks}
use Rattle.hart_task.specs.OneRun.{all_lines}
use Rattle.hart_task.specs.Task.{script}
use Rattle.hart_task.proofs.Blocked.{blocked}
use Rattle.hart_task.proofs.FirstSum.{events, job, run}

keeps : KeepsRules job
keeps = record {
  some = omega arith;
  most = omega arith;
  harts = (record { plain = refl; some_pages = omega arith; most_pages = omega arith; room = omega arith; requests = ((record { whole = refl; no_order = refl }, refl), tt) }, tt);
  rest = refl;
}

pub example : AreBlocks job 0 0 (script job 0) [] (all_lines events)
example = blocked job 7 0 events keeps (omega arith) run
