use Rattle.std.proofs.Common.{List, length}
use Rattle.rv_fields.specs.Effect.{Effect}
use Rattle.trace_text.specs.Reading.{Unread}
use Rattle.trace_replay.specs.Judging.{IsCompared}
use Rattle.trace_replay.proofs.Compared.{IsRemaining}
use Rattle.trace_replay.proofs.comparison.Comparison.finish.Given as goal

abbrev pub invariant-loop-line : goal.invariant-loop-line
invariant-loop-line l = (start : Unread) (behind : List Effect) → IsCompared start behind l.initial.self → IsRemaining start behind l.self

abbrev pub decreases-loop-line : goal.decreases-loop-line
decreases-loop-line l = length l.self.lines.rest.now
