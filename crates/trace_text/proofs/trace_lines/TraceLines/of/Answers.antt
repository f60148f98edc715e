use Rattle.trace_text.proofs.Unread.{begins}
use Rattle.trace_text.proofs.trace_lines.TraceLines.of.Goals as goal

pub returns : goal.returns
returns c =
    let header = c.in_ok-harts.ensures in
    begins c.in_ok-harts.harts c.args.bytes.now c.in-Some.first.now c.in-Some.rest.now c.in-Some.ensures.parts header.0 header.1 header.2 header.3 header.4
