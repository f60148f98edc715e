use Rattle.trace_fields.proofs.Taken.{lacks_here, behind, handed_on}
use Rattle.trace_text.proofs.lines.picked.Goals as goal

pub returns-in_err-hart : goal.returns-in_err-hart
returns-in_err-hart c =
    handed_on _ _ c.from_residual.result _ c.from_residual.ensures.1
    (lacks_here c.in_err-hart.ensures)

pub returns-in_err-tree : goal.returns-in_err-tree
returns-in_err-tree c =
    handed_on _ _ c.from_residual-in_err-tree.result _ c.from_residual-in_err-tree.ensures.1
    (behind c.in_ok-hart.ensures.0 (lacks_here c.in_err-tree.ensures))

pub returns-in_err-leaf : goal.returns-in_err-leaf
returns-in_err-leaf c =
    handed_on _ _ c.from_residual-in_err-leaf.result _ c.from_residual-in_err-leaf.ensures.1
    (behind c.in_ok-hart.ensures.0 (behind c.in_ok-tree.ensures.0 (lacks_here c.in_err-leaf.ensures)))

pub returns-in_err-word16 : goal.returns-in_err-word16
returns-in_err-word16 c =
    handed_on _ _ c.from_residual-in_err-word16.result _ c.from_residual-in_err-word16.ensures.1
    (behind c.in_ok-hart.ensures.0 (behind c.in_ok-tree.ensures.0 (behind c.in_ok-leaf.ensures.0 (lacks_here c.in_err-word16.ensures))))
