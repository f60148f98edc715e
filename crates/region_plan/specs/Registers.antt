-- Sets of integer registers.
use Rattle.std.specs.List.{list_any, range_with_len}
use Rattle.std.specs.Prelude.{Bool, List, false, filter, slice_index_or, ℕ, ◌==◌}

-- a number is among these
abbrev pub is_among : List ℕ → ℕ → Bool
is_among numbers n = list_any (λ m. m == n) numbers

-- how many registers a hart has
abbrev pub registers : ℕ
registers = 32

-- the registers that a table has, in rising order
unfoldable pub registers_in : List Bool → List ℕ
registers_in has = filter (λ r. slice_index_or has r false) (range_with_len 0 registers)

-- the registers among numbers, each once and in rising order
unfoldable pub rising : List ℕ → List ℕ
rising numbers = filter (is_among numbers) (range_with_len 0 registers)
