-- What the types of this crate are in the definitions of the machine.
use Rattle.std.specs.Prelude.{ℕ, ◌≡◌, ◌<◌, ◌≤◌, ◌^◌, List, [], ◌∷◌, ◌++◌, Option, Some, None, take, slice_index_or}
use Rattle.rv_fields.specs.Effect.{Entry}
use Rattle.rv_fields.specs.Sv39 as machine
use Rattle.sv_walk.specs.declared.next.Next.{Next}
use Rattle.sv_walk.specs.declared.next.Next.TheVariants.{Reached, Faults, Table}
use Rattle.sv_walk.specs.declared.rights.Rights.{Rights}
use Rattle.sv_walk.specs.declared.source.PteAt.{PteAt}
use Rattle.sv_walk.specs.declared.source.PteAt.TheVariants.{Value, Unfixed, Absent}
use Rattle.sv_walk.specs.declared.trail.Trail.{Trail}
use Rattle.sv_walk.specs.declared.walked.Walked.{Walked}
use Rattle.sv_walk.specs.declared.walked.Walked.TheVariants.{Page, Fault, Unknown}

abbrev pub rights_seen : Rights → machine.Rights
rights_seen rights = record { mode = rights.mode; sum = rights.sum; mxr = rights.mxr }

abbrev pub pte_told : PteAt → Option (Option ℕ)
pte_told (Value pte) = Some (Some pte)
pte_told Absent = Some None
pte_told Unfixed = None

-- ---- trails

-- the entries of these addresses and these contents
abbrev pub entries_of : List ℕ → List ℕ → List Entry
entries_of [] contents = []
entries_of (place ∷ places) [] = []
entries_of (place ∷ places) (content ∷ contents) = record { at = place; pte = content } ∷ entries_of places contents

abbrev pub trail_seen : Trail → List Entry
trail_seen trail = take trail.len (entries_of trail.at trail.pte)

-- 0 stands past the last entry, so that one list of entries is one trail
pub record HoldsZeros (trail : Trail) : Type 0 where
  pub at : (i : ℕ) → trail.len ≤ i → slice_index_or trail.at i 0 ≡ 0
  pub pte : (i : ℕ) → trail.len ≤ i → slice_index_or trail.pte i 0 ≡ 0

-- ---- results

-- an unknown entry is no result
abbrev pub walked_seen : Walked → Option machine.Walked
walked_seen (Page pa trail) = Some (record { trail = trail_seen trail; result = machine.reached pa })
walked_seen (Fault cause trail) = Some (record { trail = trail_seen trail; result = machine.faults cause })
walked_seen (Unknown at level) = None

-- what holds of the trail, where there is one
abbrev pub WithTrail : (Trail → Type 0) → Walked → Type 0
WithTrail P (Page pa trail) = P trail
WithTrail P (Fault cause trail) = P trail
WithTrail P (Unknown at level) = Unit {0}

-- what a walk comes to, after these entries
abbrev pub behind_trail : List Entry → machine.Walked → machine.Walked
behind_trail before w = record { trail = before ++ w.trail; result = w.result }

-- ---- what follows from an entry

-- what the walk comes to from there on, where below is what it comes to from a table of the level below
abbrev pub next_walked : Next → (ℕ → Option machine.Walked) → Option machine.Walked
next_walked (Reached pa) below = Some (record { trail = []; result = machine.reached pa })
next_walked (Faults cause) below = Some (record { trail = []; result = machine.faults cause })
next_walked (Table table) below = below table

-- a pointer leads to a table, and has a level below its own
abbrev pub LeadsBelow : ℕ → Next → Type 0
LeadsBelow level (Reached pa) = Unit {0}
LeadsBelow level (Faults cause) = Unit {0}
LeadsBelow level (Table table) = (0 < level) × (table < 2 ^ 44)
