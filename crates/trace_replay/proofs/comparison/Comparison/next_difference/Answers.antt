use Rattle.std.proofs.Common.{◌∷◌, [], sym, ap, ◌∙◌, subst, arith}
use Rattle.std.specs.Prelude.{option_map}
use Rattle.trace_text.specs.Reading.{HasRead, unread}
use Rattle.trace_text.specs.Views.{line_seen}
use Rattle.trace_replay.specs.Judging.{ReadsNextLine}
use Rattle.trace_replay.specs.Shown.{shown_seen}
use Rattle.trace_replay.proofs.Compared.{compared_end, compared_step, skips_on}
use Rattle.trace_replay.proofs.comparison.Comparison.next_difference.Goals as goal

pub returns-in-Some-step_of-clause-compared : goal.returns-in-Some-step_of-clause-compared
returns-in-Some-step_of-clause-compared c = λ start behind is.
    let so_far = c.loop-line.invariant in
    let reads : HasRead (line_seen c.in-Some.line ∷ []) (unread c.loop-line.self.lines) (unread c.next_line.new.self.lines) =
    subst (λ o. ReadsNextLine (option_map line_seen o) (unread c.loop-line.self.lines) (unread c.next_line.new.self.lines)) c.in-Some.is c.in_ok-line.ensures.next in
    compared_step start behind c.args.self.now c.loop-line.self c.next_line.new.self so_far.read.0 (line_seen c.in-Some.line)
    (shown_seen c.in-Some-step_of.told) (shown_seen c.args.found.now) _ c.in_ok-step_difference.field-0
    is c.requires.same so_far.read.1 so_far.read.2 so_far.steps reads c.in_ok-line.ensures.steps
    (sym c.step_of.ensures ∙ ap (option_map shown_seen) c.in-Some-step_of.is) (omega arith) c.in_ok-step_difference.ensures

pub loop-line-preserved : goal.loop-line-preserved
loop-line-preserved c =
    let so_far = c.loop-line.invariant in
    let reads : HasRead (line_seen c.in-Some.line ∷ []) (unread c.loop-line.self.lines) (unread c.next_line.new.self.lines) =
    subst (λ o. ReadsNextLine (option_map line_seen o) (unread c.loop-line.self.lines) (unread c.next_line.new.self.lines)) c.in-Some.is c.in_ok-line.ensures.next in
    record {
      read = skips_on c.args.self.now c.loop-line.self c.next_line.new.self so_far.read.0 (line_seen c.in-Some.line) so_far.read.1 so_far.read.2 reads
          (sym c.step_of.ensures ∙ ap (option_map shown_seen) c.in_default-step_of.is);
      steps = c.in_ok-line.ensures.steps ∙ so_far.steps;
      first = c.in_ok-line.ensures.first ∙ so_far.first;
    }

pub returns-clause-compared : goal.returns-clause-compared
returns-clause-compared c = λ start behind is.
    let so_far = c.loop-line.invariant in
    let reads = subst (λ o. ReadsNextLine (option_map line_seen o) (unread c.loop-line.self.lines) (unread c.next_line.new.self.lines)) c.in_default.is c.in_ok-line.ensures.next in
    compared_end start behind c.args.self.now c.loop-line.self c.next_line.new.self so_far.read.0 (shown_seen c.args.found.now) _ c.in_ok-lacking.lacking
    is c.requires.same so_far.read.1 so_far.read.2 so_far.steps reads.0 reads.1 c.in_ok-line.ensures.steps c.number-line-2.ensures c.in_ok-lacking.ensures
