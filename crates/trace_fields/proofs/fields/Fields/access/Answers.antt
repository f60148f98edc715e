use Rattle.trace_fields.specs.Readings.{optional, access_reading}
use Rattle.trace_fields.specs.Text.{or_none, access_text}
use Rattle.trace_fields.proofs.Backs.{optional_access_back}
use Rattle.trace_fields.proofs.Taken.{as_is, takes}
use Rattle.trace_fields.proofs.fields.Fields.access.Goals as goal

pub returns : goal.returns
returns c =
    let o = c.optional_access_of.result in
    takes (optional access_reading) (or_none access_text) (λ v. v) optional_access_back c.in_ok-next.ensures o (as_is o c.optional_access_of.ensures) c.fault-fault.result c.fault-fault.ensures c.ok_or.result c.ok_or.ensures.value
