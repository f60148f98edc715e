use Rattle.trace_fields.proofs.Taken.{lacks_here, behind, handed_on}
use Rattle.trace_text.proofs.lines.step.Goals as goal

pub returns-in_err-hart : goal.returns-in_err-hart
returns-in_err-hart c =
    handed_on _ _ c.from_residual.result _ c.from_residual.ensures.1
    (lacks_here c.in_err-hart.ensures)

pub returns-in_err-pc : goal.returns-in_err-pc
returns-in_err-pc c =
    handed_on _ _ c.from_residual-in_err-pc.result _ c.from_residual-in_err-pc.ensures.1
    (behind c.in_ok-hart.ensures.0 (lacks_here c.in_err-pc.ensures))

pub returns-in_err-pa : goal.returns-in_err-pa
returns-in_err-pa c =
    handed_on _ _ c.from_residual-in_err-pa.result _ c.from_residual-in_err-pa.ensures.1
    (behind c.in_ok-hart.ensures.0 (behind c.in_ok-pc.ensures.0 (lacks_here c.in_err-pa.ensures)))

pub returns-in_err-word : goal.returns-in_err-word
returns-in_err-word c =
    handed_on _ _ c.from_residual-in_err-word.result _ c.from_residual-in_err-word.ensures.1
    (behind c.in_ok-hart.ensures.0 (behind c.in_ok-pc.ensures.0 (behind c.in_ok-pa.ensures.0 (lacks_here c.in_err-word.ensures))))

pub returns-in_err-rd : goal.returns-in_err-rd
returns-in_err-rd c =
    handed_on _ _ c.from_residual-in_err-rd.result _ c.from_residual-in_err-rd.ensures.1
    (behind c.in_ok-hart.ensures.0 (behind c.in_ok-pc.ensures.0 (behind c.in_ok-pa.ensures.0 (behind c.in_ok-word.ensures.0
    (lacks_here c.in_err-rd.ensures)))))

pub returns-in_err-access : goal.returns-in_err-access
returns-in_err-access c =
    handed_on _ _ c.from_residual-in_err-access.result _ c.from_residual-in_err-access.ensures.1
    (behind c.in_ok-hart.ensures.0 (behind c.in_ok-pc.ensures.0 (behind c.in_ok-pa.ensures.0 (behind c.in_ok-word.ensures.0
    (behind c.in_ok-rd.ensures.0 (lacks_here c.in_err-access.ensures))))))

pub returns-in_err-trail : goal.returns-in_err-trail
returns-in_err-trail c =
    handed_on _ _ c.from_residual-in_err-trail.result _ c.from_residual-in_err-trail.ensures.1
    (behind c.in_ok-hart.ensures.0 (behind c.in_ok-pc.ensures.0 (behind c.in_ok-pa.ensures.0 (behind c.in_ok-word.ensures.0
    (behind c.in_ok-rd.ensures.0 (behind c.in_ok-access.ensures.0 (lacks_here c.in_err-trail.ensures)))))))

pub returns-in_err-trap : goal.returns-in_err-trap
returns-in_err-trap c =
    handed_on _ _ c.from_residual-in_err-trap.result _ c.from_residual-in_err-trap.ensures.1
    (behind c.in_ok-hart.ensures.0 (behind c.in_ok-pc.ensures.0 (behind c.in_ok-pa.ensures.0 (behind c.in_ok-word.ensures.0
    (behind c.in_ok-rd.ensures.0 (behind c.in_ok-access.ensures.0 (behind c.in_ok-trail.ensures.0 (lacks_here c.in_err-trap.ensures))))))))
