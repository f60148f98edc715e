use Rattle.std.proofs.Common.{sym, subst, rules}
use Rattle.rv_fields.specs.Status.{HasMode}
use Rattle.rv_fields.specs.Ranges.{IsLegal}
use Rattle.rv_fields.proofs.Legal.{legal_returned}
use Rattle.rv_fields.proofs.Modes.{mret_status_mode}
use Rattle.rv_csr.proofs.file.CsrFile.mret.Goals as goal

pub returns-clause-has_mode : goal.returns-clause-has_mode
returns-clause-has_mode c =
    subst HasMode (sym c.mret_status-self-inside.ensures) (mret_status_mode c.mode_of-mode.result c.self.inside.mstatus)

pub returns-clause-file : goal.returns-clause-file
returns-clause-file c = search rules

pub returns-clause-stays_legal : goal.returns-clause-stays_legal
returns-clause-stays_legal c legal = subst IsLegal (sym (returns-clause-file c)) ((legal_returned c.args.self.now legal).0)
