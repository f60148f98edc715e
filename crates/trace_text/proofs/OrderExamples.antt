-- The orders that texts tell, and the faults of texts that tell none.
use Rattle.std.proofs.Common.{◌≡◌, ℕ, [], ◌∷◌, refl, Option, Some, None}
use Rattle.std.specs.Prelude.{codes, replicate}
use Rattle.std.specs.Fmt.{digits}
use Rattle.trace_fields.specs.Fields.{Place}
use Rattle.trace_text.specs.Orders.{order_fault, order_told, harts_told}

abbrev at : ℕ → ℕ → Option Place
at line field = Some (record { line = line; field = field })

-- Orders without a fault, and what they tell.
pub good_orders : (order_fault (codes "order 1 1\n0 72\n") ≡ None) × (order_told (codes "order 1 1\n0 72\n") ≡ replicate 72 0)
    × (harts_told (codes "order 1 1\n0 72\n") ≡ 1)
    × (order_fault (codes "order 1 2\n0 70\n1 70\n0 2\n1 2\n") ≡ None)
    × (order_told (codes "order 1 2\n0 2\n1 1\n0 1\n") ≡ 0 ∷ 0 ∷ 1 ∷ 0 ∷ [])
    × (order_fault (codes "order 1 16\n") ≡ None) × (order_told (codes "order 1 16\n") ≡ []) × (harts_told (codes "order 1 16\n") ≡ 16)
unfolding digits
good_orders = (refl, refl, refl, refl, refl, refl, refl, refl)

-- The faults of an order's first line.
pub header_faults : (order_fault [] ≡ at 1 1) × (order_fault (codes "\n") ≡ at 1 1) × (order_fault (codes "order") ≡ at 1 2)
    × (order_fault (codes "order 1 1") ≡ at 1 4) × (order_fault (codes "order 1") ≡ at 1 3) × (order_fault (codes "trace 1 1\n") ≡ at 1 1)
    × (order_fault (codes "order 2 1\n") ≡ at 1 2) × (order_fault (codes "order 1 0\n") ≡ at 1 3) × (order_fault (codes "order 1 17\n") ≡ at 1 3)
    × (order_fault (codes "order 1 01\n") ≡ at 1 3) × (order_fault (codes "order 1 1 \n") ≡ at 1 4) × (order_fault (codes "order  1 1\n") ≡ at 1 2)
    × (order_fault (codes "order 1\n") ≡ at 1 3)
unfolding digits
header_faults = (refl, refl, refl, refl, refl, refl, refl, refl, refl, refl, refl, refl, refl)

-- The faults of its other lines.
pub turn_faults : (order_fault (codes "order 1 1\n0 0\n") ≡ at 2 2) × (order_fault (codes "order 1 1\n0 36\n0 36\n") ≡ at 3 1)
    × (order_fault (codes "order 1 1\n0 1048577\n") ≡ at 2 2) × (order_fault (codes "order 1 1\n1 72\n") ≡ at 2 1)
    × (order_fault (codes "order 1 1\n0 072\n") ≡ at 2 2) × (order_fault (codes "order 1 1\n00 72\n") ≡ at 2 1)
    × (order_fault (codes "order 1 1\n0 +72\n") ≡ at 2 2) × (order_fault (codes "order 1 1\n0 72") ≡ at 2 3)
    × (order_fault (codes "order 1 1\n0") ≡ at 2 2) × (order_fault (codes "order 1 1\n0 ") ≡ at 2 2) × (order_fault (codes "order 1 1\n0 72 ") ≡ at 2 3)
    × (order_fault (codes "order 1 1\n0 72\n\n") ≡ at 3 1) × (order_fault (codes "order 1 1\n0\n") ≡ at 2 2)
    × (order_fault (codes "order 1 2\n0 1048575\n1 2\n") ≡ at 3 2) × (order_fault (codes "order 1 2\n0 1048575\n1 1\n") ≡ None)
    × (order_fault (codes "order 1 2\n0 1048576\n1 1\n") ≡ at 3 2) × (order_fault (codes "order 1 2\n\n0 1\n") ≡ at 2 1)
    × (order_fault (codes "order 1 1\n0 72\r\n") ≡ at 2 2)
unfolding digits
turn_faults = (refl, refl, refl, refl, refl, refl, refl, refl, refl, refl, refl, refl, refl, refl, refl, refl, refl, refl)
