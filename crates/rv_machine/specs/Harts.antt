-- What holds of the harts of a machine.
use Rattle.std.specs.Prelude.{ℕ, ◌≡◌, List, Some, slice_index}
use Rattle.std.specs.List.{slice_get}
use Rattle.rv_step.specs.declared.hart.Hart.{Hart}

-- each has its place as its number, and 0 in x0
abbrev pub AreNumbered : List Hart → Type 0
AreNumbered harts = (h : ℕ) (hart : Hart) → slice_get harts h ≡ Some hart → (hart.number ≡ h) × (slice_index hart.x 0 ≡ 0)
