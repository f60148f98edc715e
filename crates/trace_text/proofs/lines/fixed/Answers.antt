use Rattle.trace_fields.proofs.Taken.{lacks_here, behind, handed_on}
use Rattle.trace_text.proofs.lines.fixed.Goals as goal

pub returns-in_err-hart : goal.returns-in_err-hart
returns-in_err-hart c =
    handed_on _ _ c.from_residual.result _ c.from_residual.ensures.1
    (lacks_here c.in_err-hart.ensures)

pub returns-in_err-reg : goal.returns-in_err-reg
returns-in_err-reg c =
    handed_on _ _ c.from_residual-in_err-reg.result _ c.from_residual-in_err-reg.ensures.1
    (behind c.in_ok-hart.ensures.0 (lacks_here c.in_err-reg.ensures))

pub returns-in_err-value : goal.returns-in_err-value
returns-in_err-value c =
    handed_on _ _ c.from_residual-in_err-value.result _ c.from_residual-in_err-value.ensures.1
    (behind c.in_ok-hart.ensures.0 (behind c.in_ok-reg.ensures.0 (lacks_here c.in_err-value.ensures)))
