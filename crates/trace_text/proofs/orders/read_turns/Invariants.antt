use Rattle.std.proofs.Common.{◌≡◌, ◌+◌, ◌≤◌, ◌<◌, length}
use Rattle.trace_text.specs.Forms.{fault_from, lines_of_text}
use Rattle.trace_text.specs.Orders.{order_form, turns_so_far, most_steps}
use Rattle.trace_text.specs.Reading.{turns_fault}
use Rattle.trace_text.proofs.TurnsRead.{HasTurns}
use Rattle.trace_text.proofs.orders.read_turns.Given as goal

-- the order is that of the lines so far, and the fault of those which are left is that of all lines
abbrev pub invariant-loop-first : goal.invariant-loop-first
invariant-loop-first l = record {
  behind : 1 < l.line;
  within : l.line + length l.rest ≤ length l.lines + 2;
  short : length l.order.items ≤ most_steps;
  fault : fault_from order_form (turns_so_far l.harts l.last (length l.order.items)) l.line (lines_of_text l.rest) ≡ turns_fault l.harts l.lines;
  turns : HasTurns l.harts l.last l.order.items l.lines l.rest;
}

abbrev pub decreases-loop-first : goal.decreases-loop-first
decreases-loop-first l = length l.rest
