use Rattle.std.proofs.Common.{◌<◌, ◌≡◌, length, ap, ◌∙◌, arith}
use Rattle.std.specs.Option.{unwrap_or}
use Rattle.trace_replay.proofs.Entries.{one_more}
use Rattle.trace_replay.proofs.shown.trail_of.Goals as goal

pub loop-place-preserved : goal.loop-place-preserved
loop-place-preserved c =
    let trail = c.args.trail.now in
    let place = c.loop-place.place in
    let at_long : length trail.at ≡ 4 = omega arith in
    let pte_long : length trail.pte ≡ 4 = omega arith in
    let below : place < length trail.at = omega (arith, c.loop-place-test.true, c.from-place-end.ensures, c.requires, at_long) in
    record {
      within = omega (arith, c.loop-place-test.true, c.from-place-end.ensures);
      shown = c.unwrap_or-shown.ensures ∙ ap (λ o. unwrap_or o c.loop-place.shown) c.with_entry.ensures
          ∙ one_more trail.at trail.pte place c.loop-place.shown below at_long pte_long c.loop-place.invariant.shown;
    }
