use Rattle.std.proofs.Common.{◌∷◌, [], subst}
use Rattle.std.specs.Prelude.{option_map}
use Rattle.std.proofs.lemmas.Result.{err_from_is_err_and}
use Rattle.trace_text.specs.Reading.{HasRead, unread}
use Rattle.trace_text.specs.Views.{line_seen}
use Rattle.trace_replay.specs.Judging.{ReadsNextLine}
use Rattle.trace_replay.specs.Verdicts.{IsTraceFault}
use Rattle.trace_replay.proofs.Compared.{finished, remains_on}
use Rattle.trace_replay.proofs.comparison.Comparison.finish.Goals as goal

pub returns-in_err-line-clause-fault : goal.returns-in_err-line-clause-fault
returns-in_err-line-clause-fault c =
    let p = err_from_is_err_and c.from_residual.result c.from_residual.ensures.1 in
    rw (p.1, p.2) (λ start behind is.
    subst (λ place. IsTraceFault place c.in_err-line.field-0.0) (c.loop-line.invariant start behind is).has_read.fault c.in_err-line.ensures.next)

pub loop-line-preserved : goal.loop-line-preserved
loop-line-preserved c = λ start behind is.
    let reads : HasRead (line_seen c.in-Some.line ∷ []) (unread c.loop-line.self.lines) (unread c.next_line.new.self.lines) =
    subst (λ o. ReadsNextLine (option_map line_seen o) (unread c.loop-line.self.lines) (unread c.next_line.new.self.lines)) c.in-Some.is c.in_ok-line.ensures.next in
    remains_on start behind c.loop-line.self c.next_line.new.self c.take_unmade.new.self (line_seen c.in-Some.line) (c.loop-line.invariant start behind is)
    reads c.in_ok-line.ensures.steps c.in_ok-line.ensures.first c.take_unmade.ensures.lines c.in_ok-take_unmade.ensures.steps c.in_ok-take_unmade.ensures.first

pub returns-clause-finished : goal.returns-clause-finished
returns-clause-finished c = λ start behind is.
    let reads = subst (λ o. ReadsNextLine (option_map line_seen o) (unread c.loop-line.self.lines) (unread c.next_line.new.self.lines)) c.in_default.is c.in_ok-line.ensures.next in
    finished start behind c.loop-line.self c.next_line.new.self (c.loop-line.invariant start behind is) reads.0 reads.1
    c.in_ok-line.ensures.steps c.in_ok-line.ensures.first
