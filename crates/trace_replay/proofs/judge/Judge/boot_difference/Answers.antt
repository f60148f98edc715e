use Rattle.std.proofs.Common.{◌+◌, ◌-◌, ◌≡◌, Some, suc, false, sym, ap, ◌∙◌, arith}
use Rattle.std.specs.Prelude.{slice_index_or}
use Rattle.trace_replay.specs.declared.boot.Boot.{Boot}
use Rattle.boot_words.specs.Passing.{effects_by}
use Rattle.trace_replay.specs.Comparing.{begins_with_boot, boots_differ}
use Rattle.trace_replay.specs.Judging.{IsBootOf}
use Rattle.trace_replay.proofs.Boots.{boot_fails, boot_passes, kept_at, no_boot}
use Rattle.trace_replay.proofs.judge.Judge.boot_difference.Goals as goal

pub returns-then-not-passes : goal.returns-then-not-passes
returns-then-not-passes c = λ effects boots.
    let harts = c.args.harts in
    let hart = c.loop-hart.hart in
    let boot : Boot = slice_index_or c.args.self.now.boots c.from.result no_boot in
    let is : IsBootOf boot (effects_by hart effects) = kept_at c.args.self.now.boots effects hart c.from.result c.from.ensures (omega (arith, c.loop-hart-test.true, c.requires)) boots in
    let fails : begins_with_boot (effects_by hart effects) ≡ false = sym (c.passes.ensures (effects_by hart effects) is) ∙ c.if-not-passes.true in
    let left : harts - hart ≡ suc (harts - (hart + 1)) = omega (arith, c.loop-hart-test.true) in
    ap Some c.in_ok-of.ensures
    ∙ sym (c.loop-hart.invariant.left effects boots ∙ ap (λ n. boots_differ hart n effects) left ∙ boot_fails hart (harts - (hart + 1)) effects boot is fails)

pub loop-hart-preserved : goal.loop-hart-preserved
loop-hart-preserved c =
    let harts = c.args.harts in
    let hart = c.loop-hart.hart in
    let left : harts - hart ≡ suc (harts - (hart + 1)) = omega (arith, c.loop-hart-test.true) in
    record {
      within = omega (arith, c.loop-hart-test.true);
      left = λ effects boots.
          let is : IsBootOf (slice_index_or c.args.self.now.boots c.from.result no_boot) (effects_by hart effects)
          = kept_at c.args.self.now.boots effects hart c.from.result c.from.ensures (omega (arith, c.loop-hart-test.true, c.requires)) boots in
          c.loop-hart.invariant.left effects boots ∙ ap (λ n. boots_differ hart n effects) left
          ∙ boot_passes hart (harts - (hart + 1)) effects (sym (c.passes.ensures (effects_by hart effects) is) ∙ c.if-not-passes.false);
    }
