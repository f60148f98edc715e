use Rattle.std.proofs.Common.{◌≡◌, ◌+◌, ◌-◌, ◌^◌, ◌<◌, arith, subst, ap, sym, ◌∙◌, ℕ}
use Rattle.choice_tree.specs.Draws.{Draws, word_of, generator_after, words_from}
use Rattle.choice_tree.proofs.Drawing.{drawn_word, left_after_word}
use Rattle.choice_tree.proofs.draws.DrawWords.next.Goals as goal

pub invariant_of-self : goal.invariant_of-self
invariant_of-self c = λ more.
    let fields = c.self.inside in
    let below : fields.drawn < 2 ^ 64 - 1 = omega (arith, c.saturating_add-self-inside.ensures) in
    let counted : fields.drawn + 1 ≡ c.saturating_add-self-inside.result = omega (arith, c.saturating_add-self-inside.ensures) in
    left_after_word fields.seed fields.stream fields.drawn c.next_u64-word.result _ _ (c.self.invariant below) c.next_u64-word.ensures
    ∙ ap (λ (k : ℕ). words_from (generator_after fields.seed fields.stream k)) counted

pub returns-clause-word : goal.returns-clause-word
returns-clause-word c = λ more.
    let fields = c.self.inside in
    let below : fields.drawn < 2 ^ 64 - 1 = subst (λ (d : Draws). d.drawn < 2 ^ 64 - 1) (sym c.self.view_is) more in
    drawn_word fields.seed fields.stream fields.drawn c.next_u64-word.result _ _ (c.self.invariant below) c.next_u64-word.ensures
    ∙ ap (λ (d : Draws). word_of d.seed d.stream d.drawn) c.self.view_is
