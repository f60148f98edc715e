use Rattle.std.proofs.Common.{refl}
use Rattle.std.proofs.lemmas.Grind.{put_two}
use Rattle.trace_fields.specs.Text.{byte_text}
use Rattle.trace_fields.proofs.Digits.{padded_hex}
use Rattle.trace_fields.proofs.Joined.{one_more}
use Rattle.trace_fields.proofs.display.BytesTextDisplay.fmt.Goals as goal

pub loop-byte-preserved : goal.loop-byte-preserved
loop-byte-preserved g c = λ plain.
    let so_far = c.loop-byte.invariant plain in
    let byte = (rw (c.in_radix.ensures, c.laid_out.ensures, padded_hex) at c.in_ok-write.ensures.writes) so_far.plain refl in
    put_two _ _ _ _ _ _ _ so_far byte (one_more byte_text c.args.self.now.0.now c.loop-byte.byte-index 0 c.loop-byte-test.true)
