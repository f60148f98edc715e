-- One register more is read.
use Rattle.std.proofs.Common.{rules, sym}
use Rattle.job_read.proofs.Each.{register_more, registers_all}
use Rattle.job_read.proofs.requests.registers_of.Goals as goal

pub loop-value-preserved : goal.loop-value-preserved
loop-value-preserved c = register_more c.args.values.now c.loop-value.value-index c.loop-value.registers.has c.with-registers.result.has c.value-item.result c.in_ok-register.field-0 _ c.loop-value-test.true (search rules) (search rules) c.with-registers.ensures c.loop-value.invariant

pub returns : goal.returns
returns c = sym (registers_all c.args.values.now c.loop-value.value-index c.loop-value.registers.has _ c.loop-value-test.false c.loop-value.invariant)
