use Rattle.std.proofs.Common.{sym, subst}
use Rattle.rv_fields.specs.Status.{HasMode}
use Rattle.rv_fields.specs.CsrFile.{CsrFile}
use Rattle.rv_csr.proofs.Laws.{written-written, reading-written, reading-written_other}
use Rattle.rv_fields.specs.Ranges.{IsLegal}
use Rattle.rv_fields.proofs.Legal.{legal_written}
use Rattle.rv_fields.proofs.Modes.{written_mode}
use Rattle.rv_csr.proofs.file.CsrFile.write.Goals as goal

pub returns-then-may_write-clause-reads : goal.returns-then-may_write-clause-reads
returns-then-may_write-clause-reads c = rw c.put.ensures (reading-written c.args.self.now c.args.csr c.args.value)

pub returns-then-may_write-clause-again : goal.returns-then-may_write-clause-again
returns-then-may_write-clause-again c = rw c.put.ensures (written-written c.args.self.now c.args.csr c.args.value)

pub returns-then-may_write-clause-others : goal.returns-then-may_write-clause-others
returns-then-may_write-clause-others c other apart =
    rw c.put.ensures (reading-written_other c.args.self.now c.args.csr other c.args.value apart)

pub returns-then-may_write-clause-has_mode : goal.returns-then-may_write-clause-has_mode
returns-then-may_write-clause-has_mode c has =
    subst (λ (file : CsrFile). HasMode file.mstatus) (sym c.put.ensures) (written_mode c.args.self.now c.args.csr c.args.value has)

pub returns-then-may_write-clause-stays_legal : goal.returns-then-may_write-clause-stays_legal
returns-then-may_write-clause-stays_legal c legal = subst IsLegal (sym c.put.ensures) (legal_written c.args.self.now c.args.csr c.args.value legal)
