use Rattle.std.proofs.Common.{ℕ, ◌<◌, ◌^◌, get_or, arith, rules}
use Rattle.trace_replay.proofs.Agreement.{all_small, behind_zero, one_of}
use Rattle.trace_replay.proofs.Turns.{if_ok}
use Rattle.trace_replay.proofs.replaying.machine_of.Goals as goal

pub returns-clause-harts : goal.returns-clause-harts
returns-clause-harts c = if_ok c.new.result (λ machine each h member. each h c.args.reset (one_of c.args.reset c.from.result 16 h (omega (arith, member, c.from.ensures)) (omega (arith, member, c.requires)))) c.new.ensures.harts

pub returns-clause-small : goal.returns-clause-small
returns-clause-small c =
    let x : (r : ℕ) → get_or c.args.reset.x r 0 < 2 ^ 64 = λ r. search rules in
    let csrs : (r : ℕ) → get_or c.args.reset.csrs r 0 < 2 ^ 64 = λ r. search rules in
    record {
      registers = behind_zero c.args.reset.x x;
      count = omega arith;
      raw = all_small c.args.reset.csrs csrs;
    }
