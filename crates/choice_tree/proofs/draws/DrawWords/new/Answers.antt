use Rattle.std.proofs.Common.{ap, ◌∙◌}
use Rattle.rand_pcg.specs.Lcg.{started, increment_of}
use Rattle.rand_pcg.specs.Pcg.{multiplier_128}
use Rattle.choice_tree.specs.Draws.{words_from}
use Rattle.choice_tree.proofs.Drawing.{generator_at_first}
use Rattle.choice_tree.proofs.draws.DrawWords.new.Goals as goal

pub invariant_of-result : goal.invariant_of-result
invariant_of-result c = λ _.
    ap words_from
    (c.new.ensures
    ∙ ap (λ seed. started 128 multiplier_128 seed (increment_of 128 c.from-2.result)) c.from.ensures
    ∙ ap (λ stream. started 128 multiplier_128 c.args.seed (increment_of 128 stream)) c.from-2.ensures
    ∙ generator_at_first c.args.seed c.args.stream)
