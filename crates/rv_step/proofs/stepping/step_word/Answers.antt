-- A step by what comes of its instruction.
use Rattle.std.proofs.Common.{Some, sym, ap, subst, ◌∙◌}
use Rattle.rv_fields.specs.Step.{retired}
use Rattle.rv_step.specs.Frames.{OutcomeLeaves}
use Rattle.rv_step.specs.Views.{hart_seen, done_seen, outcome_seen}
use Rattle.rv_step.specs.declared.outcome.Outcome.TheVariants.{Retires}
use Rattle.rv_step.proofs.Parts.{by_outcome}
use Rattle.rv_step.proofs.stepping.step_word.Goals as goal

pub returns-in-Retires-clause-step : goal.returns-in-Retires-clause-step
returns-in-Retires-clause-step g c =
    let after = c.outcome.new.self in
    let done = c.in-Retires.done in
    let frame = subst (OutcomeLeaves c.args.hart.now after) c.in-Retires.is c.outcome.ensures.frame in
    by_outcome (g.B.Bus.seen c.args.bus.now) c.args.hart.now c.args.pa c.args.word c.in-Some.ins c.in-Some.ops c.read-instruction.result (outcome_seen after (Retires done))
    (let told = c.in-Some.ensures.value in let at = c.decode.ensures.value in cc) c.read-instruction.ensures
    (c.outcome.ensures.outcome ∙ ap (λ r. Some (outcome_seen after r)) c.in-Retires.is)
    ∙ ap (λ h. Some (retired (hart_seen h) c.args.pa c.args.word c.in-Some.ops.rd (done_seen after done))) (sym frame)
    ∙ ap Some (sym c.retire.ensures.step)
