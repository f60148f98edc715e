-- A new file has x0 alone.
use Rattle.std.proofs.Common.{ℕ, ◌≡◌, Option, Some, None, false, eqb, cond, ap, ◌∙◌, arith}
use Rattle.std.proofs.lemmas.Bool.Decides.{nat_tests}
use Rattle.run_merge.proofs.tests.program.Goals as goal

pub fix-requires-clause-untouched : goal.fix-requires-clause-untouched
fix-requires-clause-untouched c =
    let other : eqb c.args.register 0 ≡ false = grind (arith, nat_tests) in
    ap (λ (f : ℕ → Option ℕ). f c.args.register) c.new-values.ensures.present ∙ ap (λ b. cond b (Some 0) None) other
