use Rattle.std.proofs.Common.{◌∷◌, [], refl, sym, subst}
use Rattle.forge.specs.Words.{replay}
use Rattle.forge.specs.Stops.{IsStoppedForm, replaying_seen}
use Rattle.forge.proofs.Reading.{stopped_fault}
use Rattle.forge.proofs.replaying.Replay.judge.Goals as goal

pub returns-in-Ok-clause-judged : goal.returns-in-Ok-clause-judged
returns-in-Ok-clause-judged c = record {
  verdict = c.in-Ok.verdict;
  is = c.in-Ok.ensures.verdict;
  exactly = c.in-Ok.ensures.agrees;
  ending_is = refl;
}

pub returns-in-Err-clause-stopped : goal.returns-in-Err-clause-stopped
returns-in-Err-clause-stopped c =
    let files = c.args.elf.now ∷ c.args.order.now ∷ c.args.trace.now ∷ [] in
    subst (IsStoppedForm (replay (replaying_seen c.args.self.now)) files) (sym c.stop_at.ensures)
    (stopped_fault (replaying_seen c.args.self.now) c.args.elf.now c.args.order.now c.args.trace.now c.in-Err.fault c.in-Err.ensures.fault)
