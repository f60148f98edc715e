use Rattle.std.proofs.Common.{true, refl}
use Rattle.std.proofs.lemmas.Str.{encode_ascii}
use Rattle.std.proofs.lemmas.Grind.{put_three}
use Rattle.trace_fields.proofs.Joined.{first_joined, one_more_joined, all_joined}
use Rattle.trace_fields.proofs.display.show_joined.Goals as goal

pub loop-part-init : goal.loop-part-init
loop-part-init g c = λ text each plain.
    let first = (rw (each c.first-item.result) at c.in_ok-fmt.ensures.writes) plain refl in
    rw (← first_joined text c.args.separator c.args.parts.now c.first-item.result c.in-len1-up.len_at_least c.first-item.is) first

pub loop-part-preserved : goal.loop-part-preserved
loop-part-preserved g c = λ text each plain.
    let before = c.loop-part.invariant text each plain in
    let separator = (rw (encode_ascii c.args.separator c.requires.ascii) at c.in_ok-write_char.ensures.writes) before.plain (refl {a = true}) in
    let part = (rw (each c.part-item.result) at c.in_ok-fmt-2.ensures.writes) separator.plain (refl {a = true}) in
    put_three _ _ _ _ _ _ _ _ _ before separator part
    (one_more_joined text c.args.separator c.args.parts.now c.loop-part.part-index c.part-item.result c.in-len1-up.len_at_least c.loop-part-test.true c.part-item.is)

pub returns-after-loop-part : goal.returns-after-loop-part
returns-after-loop-part g c = λ text each plain ok.
    rw (all_joined c.args.parts.now c.loop-part.part-index c.in-len1-up.len_at_least c.loop-part-test.false) at (c.loop-part.invariant text each plain)
