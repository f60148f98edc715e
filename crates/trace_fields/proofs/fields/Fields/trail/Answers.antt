use Rattle.trace_fields.specs.Readings.{trail_reading}
use Rattle.trace_fields.specs.Text.{trail_text}
use Rattle.trace_fields.proofs.Backs.{trail_back}
use Rattle.trace_fields.proofs.Taken.{as_is, takes}
use Rattle.trace_fields.proofs.fields.Fields.trail.Goals as goal

pub returns : goal.returns
returns c =
    let o = c.trail_of.result in
    takes trail_reading trail_text (λ v. v) trail_back c.in_ok-next.ensures o (as_is o c.trail_of.ensures) c.fault-fault.result c.fault-fault.ensures c.ok_or.result c.ok_or.ensures.value
