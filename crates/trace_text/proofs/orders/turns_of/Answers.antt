use Rattle.trace_fields.proofs.Taken.{from_start, lacks_here, behind, handed_on}
use Rattle.trace_text.proofs.orders.turns_of.Goals as goal

pub returns-in_err-hart : goal.returns-in_err-hart
returns-in_err-hart c =
    handed_on _ _ c.from_residual.result _ c.from_residual.ensures.1
    (from_start c.of-fields.ensures (lacks_here c.in_err-hart.ensures))

pub returns-in_err-count : goal.returns-in_err-count
returns-in_err-count c =
    handed_on _ _ c.from_residual-in_err-count.result _ c.from_residual-in_err-count.ensures.1
    (from_start c.of-fields.ensures (behind c.in_ok-hart.ensures.1 (lacks_here c.in_err-count.ensures)))
