use Rattle.trace_text.proofs.TraceTexts.{again_is}
use Rattle.trace_text.proofs.traces.read_trace.Goals as goal

pub returns-clause-again : goal.returns-clause-again
returns-clause-again c = again_is (λ v. v.items) c.args.bytes.now c.read_all.result c.read_all.ensures
