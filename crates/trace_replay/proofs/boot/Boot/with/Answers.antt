use Rattle.std.proofs.Common.{◌++◌, ◌∷◌, [], ◌+◌, sym, subst}
use Rattle.rv_step.specs.Views.{effect_seen}
use Rattle.trace_replay.specs.Judging.{IsBootOf}
use Rattle.trace_replay.proofs.Boots.{boot_more, stepped}
use Rattle.trace_replay.proofs.boot.Boot.with.Goals as goal

pub returns : goal.returns
returns c = λ hart effects is.
    let e = effect_seen hart c.args.stepped.now in
    let old = c.args.self.now in
    let more : IsBootOf (boot_more old e) (effects ++ e ∷ []) = stepped old effects e is c.requires in
    subst (λ b. IsBootOf (record { steps = old.steps + 1; untrapped = c.untrapped_with.result; returned = b }) (effects ++ e ∷ [])) (sym (c.returns_with.ensures hart))
    (subst (λ n. IsBootOf (record { steps = old.steps + 1; untrapped = n; returned = (boot_more old e).returned }) (effects ++ e ∷ [])) (sym c.untrapped_with.ensures) more)
