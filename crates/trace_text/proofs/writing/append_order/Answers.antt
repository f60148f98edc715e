use Rattle.std.proofs.Common.{ℕ, List, ◌++◌, ap, ◌∙◌, arith, append_assoc}
use Rattle.trace_text.proofs.Runs.{goes_on, changes, ends, front_stays}
use Rattle.trace_text.proofs.writing.append_order.Goals as goal
use Rattle.trace_text.proofs.writing.append_order.Goals.{then-hart-turns+in_ok-append_line-2, else-hart-turns}

pub loop-hart-preserved : goal.loop-hart-preserved
loop-hart-preserved c =
    let before = c.loop-hart.invariant in
    let so_far = c.loop-hart.into.items in
    let turns = c.loop-hart.turns in
    let rest = c.in-Some.rest.now in
    elim c.if-hart-turns.branch [
      | then-hart-turns+in_ok-append_line-2 w ↦ rw (w.into-is, w.turns-is, w.in_ok-append_line-2.ensures.text) (record {
        some = omega arith;
        within = omega arith;
        front = front_stays _ _ _ before.front;
        whole = append_assoc so_far _ _
            ∙ ap (λ (text : List ℕ). so_far ++ text) (changes turns.hart turns.count _ rest c.loop-hart-test.true before.some w.if-hart-turns.true)
            ∙ before.whole;
      })
      | else-hart-turns w ↦ rw (w.into-is, w.turns-is) (record {
        some = omega arith;
        within = omega arith;
        front = before.front;
        whole = rw (goes_on turns.hart turns.count _ rest c.loop-hart-test.true w.if-hart-turns.false) before.whole;
      })
    ]

pub returns-clause-text : goal.returns-clause-text
returns-clause-text c =
    let before = c.loop-hart.invariant in
    let turns = c.loop-hart.turns in
    c.in_ok-append_line-3.ensures.text
    ∙ ap (λ (text : List ℕ). c.loop-hart.into.items ++ text) (ends turns.hart turns.count _ c.in-Some.rest.now c.loop-hart-test.false before.some)
    ∙ before.whole
