-- Memory as pieces: some bytes at an address each.
use Rattle.std.specs.Prelude.{ℕ, ◌+◌, ◌-◌, List, [], ◌∷◌, ◌++◌, length, replicate, slice_index, Option, Some, None, unwrap_or, nat_le, nat_lt, ◌&&◌, if◌then◌else◌}
use Rattle.std.specs.Option.{option_or}

pub record Piece : Type 0 where
  pub at : ℕ
  pub bytes : List ℕ

-- the byte that a piece has at the address, if it lies there
abbrev pub piece_byte : Piece → ℕ → Option ℕ
piece_byte p a = if nat_le p.at a && nat_lt a (p.at + length p.bytes) then Some (slice_index p.bytes (a - p.at)) else None

-- the byte of the first piece that lies at the address
abbrev pub byte_in : List Piece → ℕ → Option ℕ
byte_in [] a = None
byte_in (p ∷ ps) a = option_or (piece_byte p a) (byte_in ps a)

-- the memory of the pieces, and 0 elsewhere
abbrev pub filled : List Piece → ℕ → ℕ
filled ps a = unwrap_or (byte_in ps a) 0

-- The pieces' bytes one after another, from the address on: zeros between a piece and the one before.
abbrev pub laid : ℕ → List Piece → List ℕ
laid from [] = []
laid from (p ∷ ps) = replicate (p.at - from) 0 ++ (p.bytes ++ laid (p.at + length p.bytes) ps)
