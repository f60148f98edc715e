use Rattle.trace_fields.specs.Readings.{bytes_reading}
use Rattle.std.specs.List.{flat_map}
use Rattle.trace_fields.specs.Text.{byte_text}
use Rattle.trace_fields.proofs.Backs.{bytes_back}
use Rattle.trace_fields.proofs.Taken.{takes}
use Rattle.trace_fields.proofs.fields.Fields.bytes.Goals as goal

pub returns : goal.returns
returns c =
    let told = c.in_ok-bytes_of in
    takes bytes_reading (flat_map byte_text) (λ v. v.items) bytes_back c.in_ok-next.ensures told.field-0 told.ensures c.fault-fault.result c.fault-fault.ensures c.ok_or.result c.ok_or.ensures.value
