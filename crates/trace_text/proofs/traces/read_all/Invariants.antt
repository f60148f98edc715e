use Rattle.std.proofs.Common.{length}
use Rattle.trace_text.specs.Reading.{HasRead, unread}
use Rattle.trace_text.specs.Views.{lines_seen}
use Rattle.trace_text.proofs.traces.read_all.Given as goal

-- the lines are those that were read since the first line
abbrev pub invariant-loop-lines : goal.invariant-loop-lines
invariant-loop-lines l = HasRead (lines_seen l.lines.items) (unread l.initial.unread) (unread l.unread)

abbrev pub decreases-loop-lines : goal.decreases-loop-lines
decreases-loop-lines l = length l.unread.rest.now
