use Rattle.trace_text.proofs.OrdersTold.{again_is}
use Rattle.trace_text.proofs.orders.read_order.Goals as goal

pub returns-clause-again : goal.returns-clause-again
returns-clause-again c = again_is (λ v. v.items) c.args.bytes.now c.read_lines.result c.read_lines.ensures
