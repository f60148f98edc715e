use Rattle.std.proofs.Common.{refl, Some}
use Rattle.trace_text.specs.Reading.{unread, unread_fault}
use Rattle.trace_text.specs.Traces.{trace_form}
use Rattle.trace_text.proofs.Faults.{stops_at_end}
use Rattle.trace_text.proofs.TraceTexts.{open_line, some_left}
use Rattle.trace_text.proofs.trace_lines.TraceLines.end.Goals as goal

pub returns-in_default : goal.returns-in_default
returns-in_default c =
    let left = c.args.self.now in
    let fault = c.fault_at_end.result in
    stops_at_end trace_form (Some left.harts) left.number left.rest.now (unread_fault (unread left)) refl fault
    c.requires (some_left left.rest.now left.number c.in_default.len_at_least)
    (open_line left.harts left.number left.rest.now c.read_line.result fault left.few c.read_line.ensures c.fault_at_end.ensures)
