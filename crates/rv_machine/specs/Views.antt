-- Memory and machine in the definitions of the machine.
use Rattle.std.specs.Prelude.{ℕ, ◌≡◌, ◌∷◌, List, None, Some, slice_index}
use Rattle.std.specs.List.{slice_get}
use Rattle.std.specs.Option.{option_map_or}
use Rattle.rv_fields.specs.declared.mode.Mode.TheVariants.{M}
use Rattle.rv_fields.specs.CsrFile.{zero_file, reset}
use Rattle.rv_fields.specs.Hart as machine
use Rattle.rv_fields.specs.Memory.{Seen, whole}
use Rattle.rv_fields.specs.Play as play
use Rattle.ram_image.specs.Ram.{memory}
use Rattle.rv_step.specs.declared.hart.Hart.{Hart}
use Rattle.rv_fields.specs.Step as steps
use Rattle.rv_step.specs.declared.hart.Stepped.{Stepped}
use Rattle.rv_step.specs.Views.{hart_seen, effect_seen}
use Rattle.rv_machine.specs.declared.machine.Machine.{Machine}
use Rattle.rv_machine.specs.declared.memory.Memory.{Memory}
use Rattle.rv_machine.specs.declared.reset.Reset.{Reset}
use Rattle.rv_machine.specs.Links.{links_seen}

-- a whole memory: each byte is told, and each link
abbrev pub memory_seen : Memory → Seen
memory_seen m = record { byte = whole (memory m.ram); link = links_seen m.links.standing.items }

-- the hart at a place; where there is none, one that doesn't exist
abbrev pub absent_hart : machine.Hart
absent_hart = record { number = 0; pc = 0; x = λ r. Some 0; mode = M; csrs = zero_file; reserved = None }

abbrev pub hart_in : List Hart → ℕ → machine.Hart
hart_in harts h = option_map_or hart_seen (slice_get harts h) absent_hart

abbrev pub machine_seen : Machine → play.Machine
machine_seen m = record { seen = memory_seen m.memory; harts = hart_in m.harts.items }

-- a turn of the hart: one step, which told this, and the machine after it
pub record IsMachineTurn (hart : ℕ) (told : Stepped) (old new : play.Machine) : Type 0 where
  pub stepped : steps.Stepped
  pub step : steps.step old.seen (old.harts hart) ≡ Some stepped
  pub effect : stepped.effect ≡ effect_seen hart told
  pub machine : new ≡ play.after_step old hart stepped

-- the hart of the number at reset, with these values in its registers, and what writes of these leave in its CSRs
abbrev pub reset_hart : ℕ → Reset → machine.Hart
reset_hart number r = record {
  number = number;
  pc = play.reset_pc;
  x = λ q. Some (slice_index (0 ∷ r.x) q);
  mode = M;
  csrs = reset number r.csrs;
  reserved = None;
}
