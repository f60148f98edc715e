-- Parts of a command line.
use Rattle.std.specs.Prelude.{ℕ, ◌^◌, List, ◌&&◌, nat_lt, Option, Some, None, if◌then◌else◌}
use Rattle.std.specs.List.{list_all}
use Rattle.forge.specs.Words.{is_digit, value_behind}

-- the number that digits spell behind a number, where they are digits and it is below 2^64
abbrev pub number_behind : ℕ → List ℕ → Option ℕ
number_behind n bytes =
    if list_all is_digit bytes && nat_lt (value_behind n bytes) (2 ^ 64) then Some (value_behind n bytes) else None
