-- Segments of memory, as a program is loaded.
use Rattle.std.specs.Prelude.{ℕ, ◌+◌, ◌-◌, List, [], ◌∷◌, length, map, slice_index, Bool, true, Option, Some, None, unwrap_or, nat_le, nat_lt, ◌==◌, ◌&&◌, ◌||◌, if◌then◌else◌}
use Rattle.std.specs.List.{list_all}
use Rattle.rv_fields.specs.Memory.{in_ram}
use Rattle.ram_image.specs.declared.segment.Segment.{Segment}

-- a segment without where its bytes lie in the generator's memory
pub record Stretch : Type 0 where
  pub at : ℕ
  pub bytes : List ℕ
  pub size : ℕ
  pub flags : ℕ

abbrev pub stretch_of : Segment → Stretch
stretch_of s = record { at = s.at; bytes = s.bytes.items; size = s.size; flags = s.flags }

abbrev pub stretches : List Segment → List Stretch
stretches ss = map stretch_of ss

-- the byte that a segment has at the address, if it lies there: zero behind its bytes
abbrev pub stretch_byte : Stretch → ℕ → Option ℕ
stretch_byte s a = if nat_le s.at a && nat_lt a (s.at + s.size) then Some (slice_index s.bytes (a - s.at)) else None

-- the memory of the segments, and 0 elsewhere
abbrev pub memory_of : List Stretch → ℕ → ℕ
memory_of [] a = 0
memory_of (s ∷ ss) a = unwrap_or (stretch_byte s a) (memory_of ss a)

-- A memory over which bytes are laid, from an address on, and zeros behind them up to so many addresses. Outside RAM
-- it stays as it is.
abbrev pub laid_over : (ℕ → ℕ) → ℕ → List ℕ → ℕ → ℕ → ℕ
laid_over memory at bytes size a = if in_ram a 1 && nat_le at a && nat_lt a (at + size) then slice_index bytes (a - at) else memory a

-- so many addresses from one on
pub record Span : Type 0 where
  pub at : ℕ
  pub size : ℕ

abbrev pub span_of : Stretch → Span
span_of s = record { at = s.at; size = s.size }

-- the addresses are all in RAM; where there are none, that is so
abbrev pub lies_in_ram : Span → Bool
lies_in_ram s = s.size == 0 || in_ram s.at s.size

-- no address is in both
abbrev pub is_apart : Span → Span → Bool
is_apart s t = s.size == 0 || t.size == 0 || nat_le (s.at + s.size) t.at || nat_le (t.at + t.size) s.at

-- no address is in two of them
abbrev pub are_apart : List Span → Bool
are_apart [] = true
are_apart (s ∷ ss) = list_all (is_apart s) ss && are_apart ss

-- no more bytes than addresses
abbrev pub has_room : Stretch → Bool
has_room s = nat_le (length s.bytes) s.size

-- segments that memory can hold: in RAM, apart, and no bytes behind their ends
abbrev pub are_sound : List Stretch → Bool
are_sound ss = list_all has_room ss && list_all (λ s. lies_in_ram (span_of s)) ss && are_apart (map span_of ss)
