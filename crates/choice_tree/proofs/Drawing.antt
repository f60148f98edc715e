-- A draw goes on by one word in its stream.
use Rattle.std.proofs.Common.{◌≡◌, ℕ, zero, suc, ◌+◌, refl, sym, ap, ◌∙◌, add-one}
use Rattle.rand_core.specs.Stream.{Stream, next_u64}
use Rattle.rand_core.specs.Steps.{steps_u64_low}
use Rattle.rand_core.proofs.StepsLemmas.{next_u64-stream_of}
use Rattle.rand_pcg.specs.Lcg.{next_state, state_after, started, increment_of}
use Rattle.rand_pcg.specs.Pcg.{multiplier_128, pcg64}
use Rattle.choice_tree.specs.Draws.{generator_after, word_of, words_from}

-- a step behind so many is one of one more
next_state-state_after : (w m p n s : ℕ) → next_state w m p (state_after w m p n s) ≡ state_after w m p (suc n) s
unfolding state_after
next_state-state_after w m p zero s = refl
next_state-state_after w m p (suc n) s = next_state-state_after w m p n (next_state w m p s)

-- before any draw a generator is as it was made
pub generator_at_first : (seed stream : ℕ) → started 128 multiplier_128 seed (increment_of 128 stream) ≡ generator_after seed stream 0
unfolding state_after
generator_at_first seed stream = refl

generator_step : (seed stream k : ℕ) → (pcg64 (generator_after seed stream k)).1 ≡ generator_after seed stream (k + 1)
generator_step seed stream k =
    let start = started 128 multiplier_128 seed (increment_of 128 stream) in
    ap (λ (s : ℕ). record start { state = s }) (next_state-state_after 128 multiplier_128 start.increment k start.state)
    ∙ ap (generator_after seed stream) (sym (add-one k))

-- the word of a draw, and what is left after it
pub drawn_word : (seed stream k word : ℕ) (before after : Stream) → before ≡ words_from (generator_after seed stream k)
    → (word, after) ≡ next_u64 before → word ≡ word_of seed stream k
unfolding word_of
drawn_word seed stream k word before after stands draws =
    ap (λ (p : ℕ × Stream). p.0) (draws ∙ ap next_u64 stands ∙ next_u64-stream_of (steps_u64_low pcg64) (generator_after seed stream k))

pub left_after_word : (seed stream k word : ℕ) (before after : Stream) → before ≡ words_from (generator_after seed stream k)
    → (word, after) ≡ next_u64 before → after ≡ words_from (generator_after seed stream (k + 1))
left_after_word seed stream k word before after stands draws =
    ap (λ (p : ℕ × Stream). p.1) (draws ∙ ap next_u64 stands ∙ next_u64-stream_of (steps_u64_low pcg64) (generator_after seed stream k))
    ∙ ap words_from (generator_step seed stream k)
