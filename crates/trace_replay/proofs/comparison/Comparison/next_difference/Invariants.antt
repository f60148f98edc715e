use Rattle.std.proofs.Common.{◌≡◌, List, [], length}
use Rattle.trace_text.specs.Lines.{Line, effects_of}
use Rattle.trace_text.specs.Reading.{HasRead, unread}
use Rattle.trace_replay.proofs.comparison.Comparison.next_difference.Given as goal

-- no line so far is a step line
abbrev pub invariant-loop-line : goal.invariant-loop-line
invariant-loop-line l = record {
  read : (lines : List Line) × HasRead lines (unread l.initial.self.lines) (unread l.self.lines) × (effects_of lines ≡ []);
  steps : l.self.steps ≡ l.initial.self.steps;
  first : l.self.first ≡ l.initial.self.first;
}

abbrev pub decreases-loop-line : goal.decreases-loop-line
decreases-loop-line l = length l.self.lines.rest.now
