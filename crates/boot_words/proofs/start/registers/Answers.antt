use Rattle.std.proofs.Common.{◌≡◌, arith, refl}
use Rattle.boot_words.proofs.Table.{lay_more, whole_table}
use Rattle.boot_words.proofs.start.registers.Goals as goal

pub loop-place-init : goal.loop-place-init
loop-place-init c = record { long = refl; same = λ k lt. absurd (omega arith) }

pub loop-place-preserved : goal.loop-place-preserved
loop-place-preserved c = lay_more _ _ c.loop-place.place _ c.loop-place-test.true c.loop-place.invariant c.initial.ensures

pub returns : goal.returns
returns c = let all : c.loop-place.place ≡ 31 = omega (arith, c.loop-place-test.false, c.loop-place.auto.place-end) in whole_table _ _ (rw all at c.loop-place.invariant)
