-- Names: the strings that a job, a tree or a file may name a thing by.
use Rattle.std.specs.Prelude.{ℕ, ◌-◌, Bool, true, not, ◌&&◌, ◌||◌, ◌==◌, nat_le, List, [], ◌∷◌, ◌++◌, bytes_eq, length, replicate}
use Rattle.std.specs.List.{list_all, list_any}

-- a name, as its bytes
abbrev pub Name : Type 0
Name = List ℕ

-- a letter a to z, a digit, `_` or `.`
abbrev pub is_name_byte : ℕ → Bool
is_name_byte b = (nat_le 97 b && nat_le b 122) || (nat_le 48 b && nat_le b 57) || (b == 95) || (b == 46)

-- a name: 1 to 24 such bytes
abbrev pub is_name : List ℕ → Bool
is_name bytes = nat_le 1 (length bytes) && nat_le (length bytes) 24 && list_all is_name_byte bytes

-- a name's bytes, and zeros behind them up to the longest name's length
abbrev pub padded : List ℕ → List ℕ
padded bytes = bytes ++ replicate (24 - length bytes) 0

-- no name stands twice
abbrev pub are_different : List Name → Bool
are_different [] = true
are_different (name ∷ names) = not (list_any (bytes_eq name) names) && are_different names
