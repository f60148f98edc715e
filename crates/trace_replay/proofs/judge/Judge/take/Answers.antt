use Rattle.std.proofs.Common.{◌≡◌, [], true, false, length, sym, ◌∙◌, arith}
use Rattle.std.specs.Prelude.{nat_le, slice_index_or}
use Rattle.rv_step.specs.Views.{effect_seen}
use Rattle.boot_words.specs.Booting.{boot_steps}
use Rattle.boot_words.specs.Passing.{behind_boots, effects_by}
use Rattle.trace_replay.specs.Judging.{IsBootOf}
use Rattle.trace_replay.proofs.Boots.{kept_at, no_boot}
use Rattle.trace_replay.proofs.Turns.{judged_behind, judged_boot, on_err, on_ok}
use Rattle.trace_replay.proofs.judge.Judge.take.Goals as goal

pub returns-then-is_over-clause-judged : goal.returns-then-is_over-clause-judged
returns-then-is_over-clause-judged c = on_ok c.compare.result (λ compared start effects is.
    let judge = c.args.self.now in
    let hart = c.args.hart in
    let e = effect_seen hart c.args.stepped.now in
    let kept : IsBootOf (slice_index_or judge.boots c.from-place.result no_boot) (effects_by hart effects) =
    kept_at judge.boots effects hart c.from-place.result c.from-place.ensures (omega (arith, c.requires.hart)) is.boots in
    let over : nat_le boot_steps (length (effects_by hart effects)) ≡ true = sym (c.is_over.ensures.over (effects_by hart effects) kept) ∙ c.if-is_over.true in
    judged_behind start effects e judge is c.compare.new.self over (compared start (behind_boots [] effects) is.compared))
    c.compare.ensures.compared

pub returns-then-is_over-clause-fault : goal.returns-then-is_over-clause-fault
returns-then-is_over-clause-fault c = on_err c.compare.result (λ fault faulty start effects is. faulty start (behind_boots [] effects) is.compared) c.compare.ensures.fault

pub returns-clause-judged : goal.returns-clause-judged
returns-clause-judged c = λ start effects is.
    let judge = c.args.self.now in
    let hart = c.args.hart in
    let e = effect_seen hart c.args.stepped.now in
    let kept : IsBootOf (slice_index_or judge.boots c.from-place.result no_boot) (effects_by hart effects) =
    kept_at judge.boots effects hart c.from-place.result c.from-place.ensures (omega (arith, c.requires.hart)) is.boots in
    let booting : nat_le boot_steps (length (effects_by hart effects)) ≡ false = sym (c.is_over.ensures.over (effects_by hart effects) kept) ∙ c.if-is_over.false in
    judged_boot start effects e judge is c.from-place.result c.with.result c.from-place.ensures (omega (arith, c.from-place.ensures, c.requires.hart)) booting
    (c.with.ensures hart (effects_by hart effects) kept)
