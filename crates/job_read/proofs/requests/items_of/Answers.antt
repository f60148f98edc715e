-- One item more is read.
use Rattle.std.proofs.Common.{rules}
use Rattle.job_read.proofs.Each.{item_more, items_all}
use Rattle.job_read.proofs.requests.items_of.Goals as goal

pub loop-value-preserved : goal.loop-value-preserved
loop-value-preserved c = item_more c.args.values.now c.loop-value.value-index _ _ c.value-item.result c.in_ok-request.request _ c.loop-value-test.true (search rules) (search rules) c.in_ok-push.ensures.items c.loop-value.invariant

pub returns : goal.returns
returns c = items_all c.args.values.now c.loop-value.value-index _ c.loop-value-test.false c.loop-value.invariant
