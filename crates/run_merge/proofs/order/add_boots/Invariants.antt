-- The order, and the boots of the harts that are left, are the whole.
use Rattle.std.proofs.Common.{◌≡◌, ◌-◌, ◌++◌}
use Rattle.boot_words.specs.Passing.{boots_from}
use Rattle.run_merge.proofs.order.add_boots.Given as goal

abbrev pub invariant-loop-hart : goal.invariant-loop-hart
invariant-loop-hart l = l.order.items ++ boots_from l.hart (l.harts - l.hart) ≡ l.initial.order.items ++ boots_from 0 l.harts
