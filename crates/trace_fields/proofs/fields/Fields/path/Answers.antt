use Rattle.trace_fields.specs.Readings.{path_reading}
use Rattle.trace_fields.specs.Text.{joined_by, slash}
use Rattle.trace_fields.proofs.Backs.{path_back}
use Rattle.trace_fields.proofs.Taken.{takes}
use Rattle.trace_fields.proofs.fields.Fields.path.Goals as goal

pub returns : goal.returns
returns c =
    let told = c.in_ok-path_of in
    takes path_reading (joined_by slash) (λ v. v.items) path_back c.in_ok-next.ensures told.field-0 told.ensures c.fault-fault.result c.fault-fault.ensures c.ok_or.result c.ok_or.ensures.value
