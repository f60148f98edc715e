use Rattle.trace_fields.proofs.Taken.{from_start, lacks_here, behind, handed_on}
use Rattle.trace_text.proofs.reading.header.Goals as goal

pub returns-in_err-keyword : goal.returns-in_err-keyword
returns-in_err-keyword c =
    handed_on _ _ c.from_residual.result _ c.from_residual.ensures.1
    (from_start c.of-fields.ensures (lacks_here c.in_err-keyword.ensures))

pub returns-in_err-keyword-2 : goal.returns-in_err-keyword-2
returns-in_err-keyword-2 c =
    handed_on _ _ c.from_residual-in_err-keyword-2.result _ c.from_residual-in_err-keyword-2.ensures.1
    (from_start c.of-fields.ensures (behind c.in_ok-keyword.ensures (lacks_here c.in_err-keyword-2.ensures)))

pub returns-in_err-harts : goal.returns-in_err-harts
returns-in_err-harts c =
    handed_on _ _ c.from_residual-in_err-harts.result _ c.from_residual-in_err-harts.ensures.1
    (from_start c.of-fields.ensures (behind c.in_ok-keyword.ensures (behind c.in_ok-keyword-2.ensures (lacks_here c.in_err-harts.ensures))))
