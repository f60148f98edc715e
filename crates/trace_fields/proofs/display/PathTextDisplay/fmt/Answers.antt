use Rattle.std.proofs.Common.{ℕ, List, refl}
use Rattle.std.proofs.lemmas.List.{map-id}
use Rattle.trace_fields.proofs.display.PathTextDisplay.fmt.Goals as goal

pub returns-clause-writes : goal.returns-clause-writes
returns-clause-writes g c = λ plain ok.
    rw map-id at (c.show_joined.ensures (λ (label : List ℕ). label) (λ label. refl) plain ok)
