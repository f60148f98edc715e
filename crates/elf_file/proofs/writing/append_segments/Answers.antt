use Rattle.std.proofs.Common.{◌≡◌, ◌≤◌, ◌+◌, ◌-◌, ◌++◌, length, ap, arith}
use Rattle.std.proofs.lemmas.List.{length-append}
use Rattle.elf_file.specs.Writing.{PlacedSegment, page_from}
use Rattle.elf_file.specs.Placing.{view, padded_bytes}
use Rattle.elf_file.proofs.Bytes.{le-page_from}
use Rattle.elf_file.proofs.Appending.{Step, end_more, laid_more, length-padded, begins_further}
use Rattle.elf_file.proofs.writing.append_segments.Goals as goal

pub loop-segment-preserved : goal.loop-segment-preserved
loop-segment-preserved c =
    let p : PlacedSegment = view c.behind-placed.result in
    let step : Step c.args.segments.now c.loop-segment.segment-index c.loop-segment.end p c.end-end.result = record {
      below = c.loop-segment-test.true;
      placed_there = (c.segment-item.result, c.segment-item.is, c.behind-placed.ensures);
      ends = c.end-end.ensures;
    } in
    let kept = c.loop-segment.invariant in
    let offset : p.offset ≡ page_from c.loop-segment.end = ap (λ (q : PlacedSegment). q.offset) c.behind-placed.ensures in
    let far : c.loop-segment.end ≤ page_from c.loop-segment.end = le-page_from c.loop-segment.end in
    let within : length c.loop-segment.into.items - c.args.start ≤ p.offset = omega (arith, kept.before, kept.started) in
    let room : length c.loop-segment.into.items ≤ c.args.start + p.offset = omega (arith, kept.before) in
    let now : c.append_bytes.new.into.items ≡ c.loop-segment.into.items ++ padded_bytes (length c.loop-segment.into.items - c.args.start) p = c.in_ok-append_bytes.ensures.bytes in
    let long = length-append c.loop-segment.into.items (padded_bytes (length c.loop-segment.into.items - c.args.start) p) in
    let most = length-padded (length c.loop-segment.into.items - c.args.start) p within in
    record {
      low = end_more _ _ _ _ _ step c.requires.small kept.low;
      started = omega (arith, ap length now, long, kept.started);
      before = omega (arith, ap length now, long, most, kept.started, step.ends);
      bytes = laid_more _ _ _ p _ c.args.start _ _ _ step kept.started room now kept.bytes;
      kept = begins_further _ _ _ kept.kept c.append_bytes.ensures.kept;
    }
