-- Steps that leave memory alone.
use Rattle.std.specs.Prelude.{ℕ, ◌≡◌, ◌≢◌, ◌<◌, [], IfSome, IsSome, Option, Some, None}
use Rattle.rv_fields.specs.declared.mode.Mode.TheVariants.{U}
use Rattle.rv_fields.specs.declared.trap.Trap.{Trap}
use Rattle.rv_fields.specs.Effect.{Effect}
use Rattle.rv_fields.specs.Hart.{Hart, Registers}
use Rattle.rv_fields.specs.Laws.{with_registers}
use Rattle.rv_fields.specs.Step.{Stepped, step}
use Rattle.trace_fields.specs.Bounds.{trap_bound}
use Rattle.hart_task.specs.Bus.{word_seen}

-- what such a step of a word that stands at the hart's pc does: it writes a register, or takes a trap, or neither
abbrev pub plain_effect : Hart → ℕ → Option (ℕ × ℕ) → Option Trap → Effect
plain_effect hart word rd trap = record {
  hart = hart.number;
  pc = hart.pc;
  pa = Some hart.pc;
  word = Some word;
  rd = rd;
  access = None;
  trail = [];
  trap = trap;
}

-- its cause is one of the manual's, and a mode handles it
pub record IsHandledTrap (t : Trap) : Type 0 where
  pub cause : t.cause < trap_bound
  pub to : t.to ≢ U

-- The word that stands at the hart's pc makes such a step.
pub record StepsPlainly (hart : Hart) (word : ℕ) : Type 0 where
  pub stepped : Stepped
  pub steps : step (word_seen hart.pc word) hart ≡ Some stepped
  pub plain : stepped.effect ≡ plain_effect hart word stepped.effect.rd stepped.effect.trap
  pub trap : IfSome stepped.effect.trap IsHandledTrap

-- it does so whatever stands in the hart's registers
abbrev pub IsPlainFor : Hart → ℕ → Type 0
IsPlainFor hart word = (x : Registers) → ((r : ℕ) → IsSome (x r)) → StepsPlainly (with_registers x hart) word
