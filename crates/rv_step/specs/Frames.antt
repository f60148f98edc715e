-- What instructions leave alone, and what room their accesses take.
use Rattle.std.specs.Prelude.{ℕ, ◌≡◌, Option, Some, None}
use Rattle.rv_fields.specs.declared.access.AccessKind.{AccessKind}
use Rattle.rv_fields.specs.declared.access.AccessKind.TheVariants.{Load, Store, Lr, Sc, Amo}
use Rattle.rv_fields.specs.declared.access.Accessed.{Accessed}
use Rattle.rv_fields.specs.Step as steps
use Rattle.rv_step.specs.declared.hart.Hart.{Hart}
use Rattle.rv_step.specs.declared.outcome.Done.{Done}
use Rattle.rv_step.specs.declared.outcome.Outcome.{Outcome}
use Rattle.rv_step.specs.declared.outcome.Outcome.TheVariants.{Retires, Raises}

-- an instruction changes no more of the hart than its mode, its CSRs and its reservation, and nothing where it raises a trap
abbrev pub OutcomeLeaves : Hart → Hart → Outcome → Type 0
OutcomeLeaves old new (Retires done) = new ≡ record old { mode = new.mode; csrs = new.csrs; reserved = new.reserved }
OutcomeLeaves old new (Raises cause tval trail) = new ≡ old

abbrev pub access_of : Outcome → Option Accessed
access_of (Retires done) = done.access
access_of (Raises cause tval trail) = None

-- a load takes no room; what writes or links takes some at its physical address
abbrev pub TakesRoom : (ℕ → Type 0) → AccessKind → ℕ → Type 0
TakesRoom room Load pa = Unit {0}
TakesRoom room Store pa = room pa
TakesRoom room Lr pa = room pa
TakesRoom room Sc pa = room pa
TakesRoom room Amo pa = room pa

-- there is room for the access
abbrev pub HasRoomForAccess : (ℕ → Type 0) → Option Accessed → Type 0
HasRoomForAccess room None = Unit {0}
HasRoomForAccess room (Some a) = TakesRoom room a.kind a.pa

-- there is room for what comes of an instruction
abbrev pub HasRoomFor : (ℕ → Type 0) → steps.Outcome → Type 0
HasRoomFor room (steps.retires done) = HasRoomForAccess room done.access
HasRoomFor room (steps.raises cause tval trail) = Unit {0}

abbrev pub HasRoomIfTold : (ℕ → Type 0) → Option steps.Outcome → Type 0
HasRoomIfTold room None = Unit {0}
HasRoomIfTold room (Some o) = HasRoomFor room o

-- there is room for what a step accesses
abbrev pub HasRoomForStep : (ℕ → Type 0) → Option steps.Stepped → Type 0
HasRoomForStep room None = Unit {0}
HasRoomForStep room (Some s) = HasRoomForAccess room s.effect.access
