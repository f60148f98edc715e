use Rattle.std.proofs.Common.{◌≡◌, ◌<◌, ◌+◌, ◌*◌, ◌∙◌, ap, set, arith, refl}
use Rattle.boot_words.proofs.Words.{csr_load_at, csr_write_at, register_load_at, write_more, whole_block}
use Rattle.boot_words.proofs.block.boot_block.Goals as goal

pub loop-place-init : goal.loop-place-init
loop-place-init c = record { long = refl; same = λ k lt. (let zero : k ≡ 0 = omega arith in rw zero c.spelled.ensures) }

pub loop-place-preserved : goal.loop-place-preserved
loop-place-preserved c =
    let place = c.loop-place.place in
    let below : place < 15 = c.loop-place-test.true in
    write_more _ (2 * place + 2) _ _ (omega arith) (omega arith)
    (write_more _ (2 * place + 1) _ _ (omega arith) (omega arith) c.loop-place.invariant (c.table_load.ensures ∙ csr_load_at place below))
    (c.swap_csr.ensures ∙ csr_write_at place below)

pub loop-place-2-init : goal.loop-place-2-init
loop-place-2-init c =
    let done : 2 * c.loop-place.place + 1 ≡ 31 = omega arith in rw done at c.loop-place.invariant

pub loop-place-2-preserved : goal.loop-place-2-preserved
loop-place-2-preserved c =
    write_more _ _ _ _ (omega arith) (omega arith) c.loop-place-2.invariant
    (c.table_load-in-loop-place-2.ensures ∙ register_load_at c.loop-place-2.place c.loop-place-2-test.true)

pub returns : goal.returns
returns c =
    let done : 31 + c.loop-place-2.place ≡ 62 = omega arith in ap (set c.loop-place-2.words 62) c.mret.ensures ∙ whole_block _ (rw done at c.loop-place-2.invariant)
