use Rattle.rv_fields.proofs.OneCsr.{one_name}
use Rattle.rv_fields.proofs.csr.csr_named.Goals as goal

pub returns-clause-one : goal.returns-clause-one
returns-clause-one c = rw c.first_named.ensures (one_name c.args.name.now)
