use Rattle.trace_fields.specs.Readings.{kind_reading}
use Rattle.trace_fields.specs.Text.{kind_text}
use Rattle.trace_fields.proofs.Backs.{kind_back}
use Rattle.trace_fields.proofs.Taken.{as_is, takes}
use Rattle.trace_fields.proofs.fields.Fields.kind.Goals as goal

pub returns : goal.returns
returns c =
    let o = c.kind_of.result in
    takes kind_reading kind_text (λ v. v) kind_back c.in_ok-next.ensures o (as_is o c.kind_of.ensures) c.fault-fault.result c.fault-fault.ensures c.ok_or.result c.ok_or.ensures.value
