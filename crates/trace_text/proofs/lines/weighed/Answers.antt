use Rattle.trace_fields.proofs.Taken.{lacks_here, behind, handed_on}
use Rattle.trace_text.proofs.lines.weighed.Goals as goal

pub returns-in_err-hart : goal.returns-in_err-hart
returns-in_err-hart c =
    handed_on _ _ c.from_residual.result _ c.from_residual.ensures.1
    (lacks_here c.in_err-hart.ensures)

pub returns-in_err-tree : goal.returns-in_err-tree
returns-in_err-tree c =
    handed_on _ _ c.from_residual-in_err-tree.result _ c.from_residual-in_err-tree.ensures.1
    (behind c.in_ok-hart.ensures.0 (lacks_here c.in_err-tree.ensures))

pub returns-in_err-path : goal.returns-in_err-path
returns-in_err-path c =
    handed_on _ _ c.from_residual-in_err-path.result _ c.from_residual-in_err-path.ensures.1
    (behind c.in_ok-hart.ensures.0 (behind c.in_ok-tree.ensures.0 (lacks_here c.in_err-path.ensures)))

pub returns-in_err-weight : goal.returns-in_err-weight
returns-in_err-weight c =
    handed_on _ _ c.from_residual-in_err-weight.result _ c.from_residual-in_err-weight.ensures.1
    (behind c.in_ok-hart.ensures.0 (behind c.in_ok-tree.ensures.0 (behind c.in_ok-path.ensures.0 (lacks_here c.in_err-weight.ensures))))
