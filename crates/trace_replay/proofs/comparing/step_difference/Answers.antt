use Rattle.std.proofs.Common.{sym, ◌∙◌, arith}
use Rattle.trace_replay.specs.Verdicts.{difference_seen}
use Rattle.trace_replay.specs.Shown.{shown_seen}
use Rattle.trace_replay.proofs.Fields.{next_is, next_is_not}
use Rattle.trace_replay.proofs.comparing.step_difference.Goals as goal

pub returns-then-is_some : goal.returns-then-is_some
returns-then-is_some c =
    sym (c.loop-field.invariant.same ∙ next_is c.args.line c.loop-field.field-index _ (shown_seen c.args.told.now) (shown_seen c.args.found.now) difference_seen
    c.in_ok-difference.difference c.loop-field-test.true c.in_ok-difference.ensures (sym c.is_some.ensures ∙ c.if-is_some.true))

pub loop-field-preserved : goal.loop-field-preserved
loop-field-preserved c = record {
  items = c.loop-field.invariant.items;
  within = omega (arith, c.loop-field-test.true);
  same = c.loop-field.invariant.same ∙ next_is_not c.args.line c.loop-field.field-index _ (shown_seen c.args.told.now) (shown_seen c.args.found.now) difference_seen
      c.in_ok-difference.difference c.loop-field-test.true c.in_ok-difference.ensures (sym c.is_some.ensures ∙ c.if-is_some.false);
}
