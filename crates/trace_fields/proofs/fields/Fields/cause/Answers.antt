use Rattle.trace_fields.specs.Readings.{cause_reading}
use Rattle.trace_fields.specs.Text.{cause_text}
use Rattle.trace_fields.proofs.Backs.{cause_back}
use Rattle.trace_fields.proofs.Taken.{as_is, takes}
use Rattle.trace_fields.proofs.fields.Fields.cause.Goals as goal

pub returns : goal.returns
returns c =
    let o = c.cause_of.result in
    takes cause_reading cause_text (λ v. v) cause_back c.in_ok-next.ensures o (as_is o c.cause_of.ensures) c.fault-fault.result c.fault-fault.ensures c.ok_or.result c.ok_or.ensures.value
