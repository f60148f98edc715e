use Rattle.trace_fields.proofs.Taken.{lacks_here, behind, handed_on}
use Rattle.trace_text.proofs.lines.refused.Goals as goal

pub returns-in_err-hart : goal.returns-in_err-hart
returns-in_err-hart c =
    handed_on _ _ c.from_residual.result _ c.from_residual.ensures.1
    (lacks_here c.in_err-hart.ensures)

pub returns-in_err-k : goal.returns-in_err-k
returns-in_err-k c =
    handed_on _ _ c.from_residual-in_err-k.result _ c.from_residual-in_err-k.ensures.1
    (behind c.in_ok-hart.ensures.0 (lacks_here c.in_err-k.ensures))

pub returns-in_err-cause : goal.returns-in_err-cause
returns-in_err-cause c =
    handed_on _ _ c.from_residual-in_err-cause.result _ c.from_residual-in_err-cause.ensures.1
    (behind c.in_ok-hart.ensures.0 (behind c.in_ok-k.ensures.0 (lacks_here c.in_err-cause.ensures)))

pub returns-in_err-pre : goal.returns-in_err-pre
returns-in_err-pre c =
    handed_on _ _ c.from_residual-in_err-pre.result _ c.from_residual-in_err-pre.ensures.1
    (behind c.in_ok-hart.ensures.0 (behind c.in_ok-k.ensures.0 (behind c.in_ok-cause.ensures.0 (lacks_here c.in_err-pre.ensures))))
