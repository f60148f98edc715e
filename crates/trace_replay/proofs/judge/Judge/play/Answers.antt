use Rattle.std.proofs.Common.{ℕ, suc, ◌≡◌, ◌+◌, ◌++◌, ◌∷◌, [], take, sym, ap, subst, ◌∙◌, arith}
use Rattle.std.specs.Prelude.{slice_index_or}
use Rattle.std.proofs.Math.Seq.{take-suc}
use Rattle.std.proofs.lemmas.List.{take_all}
use Rattle.std.proofs.lemmas.Result.{err_from_is_err_and}
use Rattle.rv_fields.specs.Effect.{Effect}
use Rattle.rv_fields.specs.Play.{Plays}
use Rattle.rv_step.specs.Views.{effect_seen}
use Rattle.rv_machine.specs.Views.{machine_seen}
use Rattle.boot_words.specs.Passing.{behind_boots}
use Rattle.trace_replay.proofs.Turns.{few_entries, on_err, on_ok, turn_told, turns_on}
use Rattle.trace_replay.proofs.judge.Judge.play.Goals as goal

pub take-requires-clause-short : goal.take-requires-clause-short
take-requires-clause-short c =
    let trail = c.in_ok-stepped.stepped.trail in
    few_entries trail (omega arith) (omega arith)
    (turn_told _ c.in_ok-stepped.stepped (machine_seen c.loop-hart.machine) (machine_seen c.turn.new.self) c.in_ok-stepped.ensures.turn).0

pub take-requires-clause-handled : goal.take-requires-clause-handled
take-requires-clause-handled c =
    (turn_told _ c.in_ok-stepped.stepped (machine_seen c.loop-hart.machine) (machine_seen c.turn.new.self) c.in_ok-stepped.ensures.turn).1

pub returns-in_err-take-clause-fault : goal.returns-in_err-take-clause-fault
returns-in_err-take-clause-fault c =
    let p = err_from_is_err_and c.from_residual-in_err-take.result c.from_residual-in_err-take.ensures.1 in
    let so_far = c.loop-hart.invariant.judged in
    rw (p.1, p.2) (λ start is. c.in_err-take.ensures.fault start so_far.0 (so_far.2 start is))

pub loop-hart-preserved : goal.loop-hart-preserved
loop-hart-preserved c =
    let so_far = c.loop-hart.invariant.judged in
    let order = c.args.order.now in
    let index = c.loop-hart.hart-index in
    let hart : ℕ = slice_index_or order index 0 in
    let e : Effect = effect_seen hart c.in_ok-stepped.stepped in
    let next : suc index ≡ index + 1 = omega arith in
    let turned = turns_on (take index order) so_far.0 hart c.in_ok-stepped.stepped (machine_seen c.args.machine.now) (machine_seen c.loop-hart.machine)
    (machine_seen c.turn.new.self) so_far.1 c.in_ok-stepped.ensures.turn in
    let named : take index order ++ hart ∷ [] ≡ take (index + 1) order =
    sym (take-suc order index 0 c.loop-hart-test.true) ∙ ap (λ n. take n order) next in
    record {
      count = c.in_ok-stepped.ensures.count ∙ c.loop-hart.invariant.count;
      judged = (
        so_far.0 ++ e ∷ [],
        subst (λ ns. Plays (machine_seen c.args.machine.now) ns (so_far.0 ++ e ∷ []) (machine_seen c.turn.new.self)) named turned,
        λ start is. c.in_ok-take.ensures.judged start so_far.0 (so_far.2 start is),
      );
    }

pub returns-clause-played : goal.returns-clause-played
returns-clause-played c = on_ok c.finish.result (λ finished start is.
    let so_far = c.loop-hart.invariant.judged in
    let judged = so_far.2 start is in
    record {
      effects = so_far.0;
      end = machine_seen c.loop-hart.machine;
      plays = subst (λ ns. Plays (machine_seen c.args.machine.now) ns so_far.0 (machine_seen c.loop-hart.machine))
          (take_all c.loop-hart.hart-index c.args.order.now (omega (arith, c.loop-hart-test.false))) so_far.1;
      boots = judged.boots;
      finished = finished start (behind_boots [] so_far.0) judged.compared;
    })
    c.finish.ensures.finished

pub returns-clause-fault : goal.returns-clause-fault
returns-clause-fault c = on_err c.finish.result (λ fault faulty start is.
    let so_far = c.loop-hart.invariant.judged in
    faulty start (behind_boots [] so_far.0) (so_far.2 start is).compared)
    c.finish.ensures.fault
