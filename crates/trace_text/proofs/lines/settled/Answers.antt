use Rattle.trace_fields.proofs.Taken.{lacks_here, behind, handed_on}
use Rattle.trace_text.proofs.lines.settled.Goals as goal

pub returns-in_err-hart : goal.returns-in_err-hart
returns-in_err-hart c =
    handed_on _ _ c.from_residual.result _ c.from_residual.ensures.1
    (lacks_here c.in_err-hart.ensures)

pub returns-in_err-space : goal.returns-in_err-space
returns-in_err-space c =
    handed_on _ _ c.from_residual-in_err-space.result _ c.from_residual-in_err-space.ensures.1
    (behind c.in_ok-hart.ensures.0 (lacks_here c.in_err-space.ensures))

pub returns-in_err-at : goal.returns-in_err-at
returns-in_err-at c =
    handed_on _ _ c.from_residual-in_err-at.result _ c.from_residual-in_err-at.ensures.1
    (behind c.in_ok-hart.ensures.0 (behind c.in_ok-space.ensures.0 (lacks_here c.in_err-at.ensures)))

pub returns-in_err-pte : goal.returns-in_err-pte
returns-in_err-pte c =
    handed_on _ _ c.from_residual-in_err-pte.result _ c.from_residual-in_err-pte.ensures.1
    (behind c.in_ok-hart.ensures.0 (behind c.in_ok-space.ensures.0 (behind c.in_ok-at.ensures.0 (lacks_here c.in_err-pte.ensures))))
