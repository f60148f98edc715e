use Rattle.trace_fields.specs.Readings.{optional, trap_reading}
use Rattle.trace_fields.specs.Text.{or_none, trap_text}
use Rattle.trace_fields.proofs.Backs.{optional_trap_back}
use Rattle.trace_fields.proofs.Taken.{as_is, takes}
use Rattle.trace_fields.proofs.fields.Fields.trap.Goals as goal

pub returns : goal.returns
returns c =
    let o = c.optional_trap_of.result in
    takes (optional trap_reading) (or_none trap_text) (λ v. v) optional_trap_back c.in_ok-next.ensures o (as_is o c.optional_trap_of.ensures) c.fault-fault.result c.fault-fault.ensures c.ok_or.result c.ok_or.ensures.value
