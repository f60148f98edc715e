-- A hart's boot stands behind those of the harts before it.
use Rattle.std.proofs.Common.{ℕ, suc, ◌+◌, ◌-◌, ◌<◌, ◌≡◌, ◌++◌, List, length, replicate, take, ap, sym, ◌∙◌, arith, append_assoc}
use Rattle.std.proofs.lemmas.List.{take_all}
use Rattle.boot_words.specs.Booting.{boot_steps}
use Rattle.boot_words.specs.Passing.{boots_from}
use Rattle.run_merge.proofs.order.add_boots.Goals as goal

boots_more : (harts hart many room : ℕ) (old new whole : List ℕ) → hart < harts → many ≡ room → room ≡ length old
    → new ≡ take (many + boot_steps) old ++ replicate (many + boot_steps - room) hart
    → old ++ boots_from hart (harts - hart) ≡ whole → new ++ boots_from (hart + 1) (harts - (hart + 1)) ≡ whole
boots_more harts hart many room old new whole h same long is e =
    let left : ℕ = harts - (hart + 1) in
    let rest : List ℕ = boots_from (hart + 1) left in
    let more : harts - hart ≡ suc left = omega (arith, h) in
    let boot : many + boot_steps - room ≡ boot_steps = omega (arith, same) in
    ap (λ bs. bs ++ rest) is
    ∙ ap (λ bs. (bs ++ replicate (many + boot_steps - room) hart) ++ rest) (take_all (many + boot_steps) old (omega (arith, same, long)))
    ∙ ap (λ n. (old ++ replicate n hart) ++ rest) boot
    ∙ append_assoc old (replicate boot_steps hart) rest
    ∙ ap (λ n. old ++ boots_from hart n) (sym more)
    ∙ e

pub loop-hart-preserved : goal.loop-hart-preserved
loop-hart-preserved c =
    boots_more c.args.harts c.loop-hart.hart c.len.result _ c.loop-hart.order.items c.resize.new.self.items _ c.loop-hart-test.true
    c.len.ensures c.loop-hart.order.ok.0 c.in_ok-resize.ensures.items c.loop-hart.invariant
