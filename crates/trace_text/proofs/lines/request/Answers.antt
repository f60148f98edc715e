use Rattle.trace_fields.proofs.Taken.{lacks_here, behind, handed_on}
use Rattle.trace_text.proofs.lines.request.Goals as goal

pub returns-in_err-hart : goal.returns-in_err-hart
returns-in_err-hart c =
    handed_on _ _ c.from_residual.result _ c.from_residual.ensures.1
    (lacks_here c.in_err-hart.ensures)

pub returns-in_err-k : goal.returns-in_err-k
returns-in_err-k c =
    handed_on _ _ c.from_residual-in_err-k.result _ c.from_residual-in_err-k.ensures.1
    (behind c.in_ok-hart.ensures.0 (lacks_here c.in_err-k.ensures))

pub returns-in_err-kind : goal.returns-in_err-kind
returns-in_err-kind c =
    handed_on _ _ c.from_residual-in_err-kind.result _ c.from_residual-in_err-kind.ensures.1
    (behind c.in_ok-hart.ensures.0 (behind c.in_ok-k.ensures.0 (lacks_here c.in_err-kind.ensures)))
