-- All that is added is of the hart.
use Rattle.std.proofs.Common.{◌≡◌}
use Rattle.std.specs.List.{AllByRecursion}
use Rattle.region_plan.specs.Views.{work_of}
use Rattle.world_face.specs.Events.{Event}
use Rattle.serial_world.specs.Running.{Leads, all_left}
use Rattle.serial_world.proofs.harts.Harts.finish.Given as goal

abbrev pub invariant-turns : goal.invariant-turns
invariant-turns l = Leads (work_of l.job) l.initial.self l.self (λ before added. AllByRecursion (λ (e : Event). e.hart ≡ l.hart) added)

abbrev pub decreases-turns : goal.decreases-turns
decreases-turns l = all_left (work_of l.job) l.self
