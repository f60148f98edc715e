use Rattle.std.proofs.Common.{sym, subst, rules, arith}
use Rattle.rv_fields.specs.Status.{HasMode}
use Rattle.rv_fields.specs.declared.mode.Mode.TheVariants.{M}
use Rattle.rv_fields.specs.Ranges.{IsLegal}
use Rattle.rv_fields.proofs.Legal.{trapped_to_legal}
use Rattle.rv_fields.proofs.Modes.{pushed_m_mode}
use Rattle.rv_csr.proofs.file.CsrFile.trap_to_m.Goals as goal

pub returns-clause-has_mode : goal.returns-clause-has_mode
returns-clause-has_mode c = subst HasMode (sym c.pushed-self-inside.ensures) (pushed_m_mode c.self.inside.mstatus c.args.mode)

pub returns-clause-file : goal.returns-clause-file
returns-clause-file c = search rules

pub returns-clause-stays_legal : goal.returns-clause-stays_legal
returns-clause-stays_legal c legal = subst IsLegal (sym (returns-clause-file c)) (trapped_to_legal M c.args.self.now c.args.mode c.args.cause c.args.epc c.args.tval (omega arith) (omega arith) legal)
