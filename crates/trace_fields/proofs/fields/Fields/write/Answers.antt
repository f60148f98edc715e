use Rattle.trace_fields.specs.Readings.{optional, write_reading}
use Rattle.trace_fields.specs.Text.{or_none, write_text}
use Rattle.trace_fields.proofs.Backs.{optional_write_back}
use Rattle.trace_fields.proofs.Taken.{as_is, takes}
use Rattle.trace_fields.proofs.fields.Fields.write.Goals as goal

pub returns : goal.returns
returns c =
    let o = c.optional_write_of.result in
    takes (optional write_reading) (or_none write_text) (λ v. v) optional_write_back c.in_ok-next.ensures o (as_is o c.optional_write_of.ensures) c.fault-fault.result c.fault-fault.ensures c.ok_or.result c.ok_or.ensures.value
