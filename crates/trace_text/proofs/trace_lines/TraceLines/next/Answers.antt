use Rattle.std.proofs.Common.{refl, Some}
use Rattle.trace_text.specs.Reading.{unread, unread_fault}
use Rattle.trace_text.specs.Traces.{trace_form}
use Rattle.trace_text.specs.Views.{line_seen}
use Rattle.trace_text.proofs.Faults.{stops_here}
use Rattle.trace_fields.proofs.Taken.{handed_on}
use Rattle.trace_text.proofs.Unread.{reads_one}
use Rattle.trace_text.proofs.trace_lines.TraceLines.next.Goals as goal

pub returns-in_err-line-clause-next : goal.returns-in_err-line-clause-next
returns-in_err-line-clause-next c =
    let left = c.args.self.now in
    let fault = c.in_err-line.field-0.0 in
    handed_on _ _ c.from_residual.result fault c.from_residual.ensures.1
    (stops_here trace_form (Some left.harts) left.number left.rest.now (unread_fault (unread left)) refl
    c.in-Some.first.now c.in-Some.behind.now fault c.in-Some.ensures.parts c.in_err-line.ensures)

pub returns-clause-next : goal.returns-clause-next
returns-clause-next c =
    let left = c.args.self.now in
    let read = c.in_ok-line.ensures in
    reads_one left.harts left.number (line_seen c.in_ok-line.line) left.rest.now c.in-Some.first.now c.in-Some.behind.now left.few c.in-Some.ensures.parts read.0 read.1
