use Rattle.std.proofs.Common.{◌≡◌, ◌++◌, ◌∙◌, ap}
use Rattle.elf_file.specs.Writing.{PlacedSegment, program_header}
use Rattle.elf_file.specs.Placing.{view}
use Rattle.elf_file.proofs.Appending.{Step, end_more, written_more, begins_appended, begins_further}
use Rattle.elf_file.proofs.writing.append_program_headers.Goals as goal

pub loop-segment-preserved : goal.loop-segment-preserved
loop-segment-preserved c =
    let p : PlacedSegment = view c.behind-placed.result in
    let step : Step c.args.segments.now c.loop-segment.segment-index c.loop-segment.end p c.end-end.result = record {
      below = c.loop-segment-test.true;
      placed_there = (c.segment-item.result, c.segment-item.is, c.behind-placed.ensures);
      ends = c.end-end.ensures;
    } in
    let now : c.extend_from_slice.new.self.items ≡ c.loop-segment.into.items ++ program_header p =
    c.in_ok-extend_from_slice.ensures.items ∙ ap (λ xs. c.loop-segment.into.items ++ xs) c.program_header.ensures in
    record {
      low = end_more _ _ _ _ _ step c.requires.small c.loop-segment.invariant.low;
      headers = written_more program_header _ _ _ _ _ _ _ _ step now c.loop-segment.invariant.headers;
      kept = begins_further _ _ _ c.loop-segment.invariant.kept (begins_appended _ _ _ now);
    }
