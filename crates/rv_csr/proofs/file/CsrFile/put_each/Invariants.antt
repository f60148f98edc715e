use Rattle.std.proofs.Common.{◌≡◌}
use Rattle.rv_fields.specs.CsrFile.{written_each}
use Rattle.rv_csr.proofs.file.CsrFile.put_each.Given as goal

abbrev pub invariant-loop-csr : goal.invariant-loop-csr
invariant-loop-csr l =
    written_each l.self l.csr-iterator.a.rest.now l.csr-iterator.b.rest.now ≡ written_each l.initial.self l.csrs l.values
