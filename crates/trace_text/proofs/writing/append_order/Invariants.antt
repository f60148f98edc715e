use Rattle.std.proofs.Common.{◌≡◌, ◌++◌, ◌+◌, ◌≤◌, ◌<◌, drop, take, length}
use Rattle.trace_text.specs.Text.{order_text}
use Rattle.trace_text.proofs.Runs.{text_left}
use Rattle.trace_text.proofs.writing.append_order.Given as goal

-- the text so far, and that of the turns which are counted and left, is the whole
abbrev pub invariant-loop-hart : goal.invariant-loop-hart
invariant-loop-hart l = record {
  some : 0 < l.turns.count;
  within : l.turns.count ≤ l.hart-index + 1;
  front : take (length l.fn.into.items) l.into.items ≡ l.fn.into.items;
  whole : l.into.items ++ text_left l.turns.hart l.turns.count (drop l.hart-index l.rest)
      ≡ l.fn.into.items ++ order_text l.fn.harts l.order;
}
