use Rattle.rv_machine.proofs.Made.{AreMade}
use Rattle.rv_machine.proofs.machine.Machine.new.Given as goal

abbrev pub invariant-loop-number : goal.invariant-loop-number
invariant-loop-number l = AreMade l.resets l.number l.harts.items
