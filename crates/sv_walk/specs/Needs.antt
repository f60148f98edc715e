-- What keeps a walk from a result where not all entries are told.
use Rattle.std.specs.Prelude.{ℕ, ◌≡◌, ◌<◌, Option, Some, None, IsSome}
use Rattle.rv_fields.specs.Sv39.{Entries, entry_at}
use Rattle.rv_fields.specs.Sv39 as machine
use Rattle.sv_walk.specs.declared.walked.Walked.{Walked}
use Rattle.sv_walk.specs.declared.walked.Walked.TheVariants.{Page, Fault, Unknown}

-- more tells all that entries tells
pub record TellsAll (entries more : Entries) : Type 0 where
  pub same : (at : ℕ) (entry : Option ℕ) → entries at ≡ Some entry → more at ≡ Some entry

-- A walk, by whatever entries, of this address: it needs the entry at this place of a table of this level, which these
-- entries don't tell. Whatever tells all that they tell, and lets the walk come to a result, tells it.
pub record Needs (walk : Entries → Option machine.Walked) (entries : Entries) (va at level : ℕ) : Type 0 where
  pub untold : entries at ≡ None
  pub has_level : level < 3
  pub has_place : (table : ℕ) × (at ≡ entry_at va level table)
  pub needed : (more : Entries) → TellsAll entries more → IsSome (walk more) → IsSome (more at)

-- what holds of the entry that a walk needs, and of its level
abbrev pub IfUnknown : (ℕ → ℕ → Type 0) → Walked → Type 0
IfUnknown P (Page pa trail) = Unit {0}
IfUnknown P (Fault cause trail) = Unit {0}
IfUnknown P (Unknown at level) = P at level
