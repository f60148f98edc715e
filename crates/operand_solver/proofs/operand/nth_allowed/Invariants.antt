use Rattle.std.proofs.Common.{◌<◌, ◌≡◌, get_or, length}
use Rattle.region_plan.specs.Views.{pins_seen}
use Rattle.operand_solver.specs.Drawing.{allowed_to}
use Rattle.operand_solver.proofs.Counted.{left_from}
use Rattle.operand_solver.proofs.operand.nth_allowed.Given as goal

-- among those that are left it is the one of the number that is left
abbrev pub invariant-loop-register : goal.invariant-loop-register
invariant-loop-register l = (get_or (left_from (pins_seen l.pins) l.register) l.left 0 ≡ get_or (allowed_to (pins_seen l.pins)) l.number 0)
    × (l.left < length (left_from (pins_seen l.pins) l.register))
