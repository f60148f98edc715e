use Rattle.std.proofs.Common.{◌≡◌, ◌++◌, take}
use Rattle.trace_text.specs.Views.{lines_seen}
use Rattle.trace_text.specs.Text.{trace_text}
use Rattle.trace_text.proofs.writing.append_trace.Given as goal

-- what was there, and the trace of the lines so far
abbrev pub invariant-loop-line : goal.invariant-loop-line
invariant-loop-line l = l.into.items ≡ l.fn.into.items ++ trace_text l.fn.harts (lines_seen (take l.line-index l.lines))
