-- A line's hart stands behind those of the lines before it.
use Rattle.std.proofs.Common.{ℕ, ◌+◌, Vec, Global, drop, Some, None, ap, sym, ◌∙◌, ◌++◌, append-nil}
use Rattle.run_merge.proofs.Ordering.{order_more, harts_of}
use Rattle.run_merge.proofs.order.add_steps.Goals as goal
use Rattle.run_merge.proofs.order.add_steps.Goals.{in-Some+in_ok-push-in-Some, in-None}

pub loop-line-preserved : goal.loop-line-preserved
loop-line-preserved c = elim c.match-stepping_hart.branch [
  | in-Some+in_ok-push-in-Some w ↦
      ap (λ (v : Vec ℕ Global). v.items ++ harts_of (drop (c.loop-line.line-index + 1) c.args.lines.now)) w.order-is
      ∙ ap (λ out. out ++ harts_of (drop (c.loop-line.line-index + 1) c.args.lines.now)) w.in_ok-push-in-Some.ensures.items
      ∙ order_more c.loop-line.order.items _ c.args.lines.now c.loop-line.line-index _ (Some w.in-Some.hart) c.loop-line-test.true c.line-item.is w.in-Some.ensures c.loop-line.invariant
  | in-None w ↦
      ap (λ (v : Vec ℕ Global). v.items ++ harts_of (drop (c.loop-line.line-index + 1) c.args.lines.now)) w.order-is
      ∙ ap (λ out. out ++ harts_of (drop (c.loop-line.line-index + 1) c.args.lines.now)) (sym (append-nil c.loop-line.order.items))
      ∙ order_more c.loop-line.order.items _ c.args.lines.now c.loop-line.line-index _ None c.loop-line-test.true c.line-item.is w.in-None.ensures c.loop-line.invariant
]
