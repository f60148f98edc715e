use Rattle.trace_fields.proofs.Taken.{lacks_here, behind, handed_on}
use Rattle.trace_text.proofs.lines.given.Goals as goal

pub returns-in_err-hart : goal.returns-in_err-hart
returns-in_err-hart c =
    handed_on _ _ c.from_residual.result _ c.from_residual.ensures.1
    (lacks_here c.in_err-hart.ensures)

pub returns-in_err-object : goal.returns-in_err-object
returns-in_err-object c =
    handed_on _ _ c.from_residual-in_err-object.result _ c.from_residual-in_err-object.ensures.1
    (behind c.in_ok-hart.ensures.0 (lacks_here c.in_err-object.ensures))

pub returns-in_err-page : goal.returns-in_err-page
returns-in_err-page c =
    handed_on _ _ c.from_residual-in_err-page.result _ c.from_residual-in_err-page.ensures.1
    (behind c.in_ok-hart.ensures.0 (behind c.in_ok-object.ensures.0 (lacks_here c.in_err-page.ensures)))

pub returns-in_err-frame : goal.returns-in_err-frame
returns-in_err-frame c =
    handed_on _ _ c.from_residual-in_err-frame.result _ c.from_residual-in_err-frame.ensures.1
    (behind c.in_ok-hart.ensures.0 (behind c.in_ok-object.ensures.0 (behind c.in_ok-page.ensures.0 (lacks_here c.in_err-frame.ensures))))
