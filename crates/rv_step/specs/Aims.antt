-- What an access is aimed at, in the definitions of the machine.
use Rattle.std.specs.Prelude.{◌≡◌, ◌⊎◌, ◌%◌, IsTrue}
use Rattle.rv_fields.specs.declared.access.AccessKind.{AccessKind}
use Rattle.rv_fields.specs.declared.access.AccessKind.TheVariants.{Amo}
use Rattle.rv_fields.specs.Meaning.{is_amo}
use Rattle.rv_fields.specs.Memory.{IsSize}
use Rattle.rv_fields.specs.Step as steps
use Rattle.sv_walk.specs.Views.{trail_seen}
use Rattle.rv_step.specs.declared.memory.Target.{Target}
use Rattle.rv_step.specs.declared.memory.Aim.{Aim}

abbrev pub target_seen : Target → steps.Target
target_seen t = record { ins = t.ins; rs2 = t.rs2; kind = t.kind; size = t.size; extended = t.extended; va = t.va }

abbrev pub aim_seen : Aim → steps.Aim
aim_seen a = steps.aim_at (target_seen a.target) a.pa (trail_seen a.trail)

-- its size is one of the four, and a row that updates memory computes something
pub record IsTarget (t : Target) : Type 0 where
  pub size : IsSize t.size
  pub updates : t.kind ≡ Amo → IsTrue (is_amo t.ins)

-- its physical address is a multiple of its size, too
pub record IsAim (a : Aim) : Type 0 where
  pub target : IsTarget a.target
  pub aligned : a.pa % a.target.size ≡ 0
