use Rattle.std.proofs.Common.{sym, subst, rules}
use Rattle.rv_fields.specs.Status.{HasMode}
use Rattle.rv_fields.specs.CsrFile.{CsrFile}
use Rattle.rv_fields.specs.Ranges.{IsLegal}
use Rattle.rv_fields.proofs.Legal.{legal_returned}
use Rattle.rv_fields.proofs.Modes.{popped_s_mode, without_mprv_mode}
use Rattle.rv_csr.proofs.file.CsrFile.sret.Goals as goal

pub returns-clause-has_mode : goal.returns-clause-has_mode
returns-clause-has_mode c has =
    let had = subst (λ (file : CsrFile). HasMode file.mstatus) (sym c.self.view_is) has in
    let popped = subst HasMode (sym c.popped.ensures) (popped_s_mode c.self.inside.mstatus had) in
    subst HasMode (sym c.with-self-inside.ensures.value) (without_mprv_mode c.popped.result popped)

pub returns-clause-file : goal.returns-clause-file
returns-clause-file c = search rules

pub returns-clause-stays_legal : goal.returns-clause-stays_legal
returns-clause-stays_legal c legal = subst IsLegal (sym (returns-clause-file c)) ((legal_returned c.args.self.now legal).1)
