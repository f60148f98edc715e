-- The order, and the harts of the lines that are left, are the whole.
use Rattle.std.proofs.Common.{◌≡◌, ◌++◌, drop}
use Rattle.trace_text.specs.Lines.{effects_of}
use Rattle.trace_text.specs.Views.{lines_seen}
use Rattle.run_merge.specs.Justified as justified
use Rattle.run_merge.proofs.order.add_steps.Given as goal

abbrev pub invariant-loop-line : goal.invariant-loop-line
invariant-loop-line l = l.order.items ++ justified.order_of (effects_of (lines_seen (drop l.line-index l.lines)))
    ≡ l.initial.order.items ++ justified.order_of (effects_of (lines_seen l.lines))
