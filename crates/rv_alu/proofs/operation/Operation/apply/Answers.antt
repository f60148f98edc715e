use Rattle.rv_alu.proofs.Kept.{xor_kept, or_kept}
use Rattle.rv_alu.proofs.operation.Operation.apply.Goals as goal

pub returns-in-ExclusiveOr : goal.returns-in-ExclusiveOr
returns-in-ExclusiveOr c = rw c.in-ExclusiveOr.is (xor_kept c.args.a c.args.b c.ranges.a.fits c.ranges.b.fits)

pub returns-in-InclusiveOr : goal.returns-in-InclusiveOr
returns-in-InclusiveOr c = rw c.in-InclusiveOr.is (or_kept c.args.a c.args.b c.ranges.a.fits c.ranges.b.fits)
