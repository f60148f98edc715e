use Rattle.std.proofs.Common.{◌+◌, ◌≡◌, length}
use Rattle.region_plan.specs.Views.{pins_seen}
use Rattle.operand_solver.specs.Drawing.{allowed_to}
use Rattle.operand_solver.proofs.Counted.{left_from}
use Rattle.operand_solver.proofs.operand.count_allowed.Given as goal

-- the count so far, and what is left, are the whole
abbrev pub invariant-loop-register : goal.invariant-loop-register
invariant-loop-register l = l.count + length (left_from (pins_seen l.pins) l.register) ≡ length (allowed_to (pins_seen l.pins))
