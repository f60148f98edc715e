-- What one word in memory tells, and one link.
use Rattle.std.specs.Prelude.{ℕ, ◌≡◌, ◌+◌, ◌-◌, IsNone, Option, Some, None, false, slice_index, nat_le, nat_lt, ◌&&◌, if◌then◌else◌}
use Rattle.std.specs.Int.{w32, to_le_bytes}
use Rattle.rv_fields.specs.Memory.{Links, Seen, in_ram, linked}
use Rattle.hart_task.specs.declared.bus.Link.{Link}

-- the bytes of a word at the address, no others, and no link
abbrev pub word_seen : ℕ → ℕ → Seen
word_seen at word = record {
  byte = λ a. if nat_le at a && nat_lt a (at + 4) then Some (slice_index (to_le_bytes w32 word) (a - at)) else None;
  link = λ h g. None;
}

-- the one link stands, and no other is told
abbrev pub link_seen : Option Link → Links
link_seen None h g = None
link_seen (Some l) h g = linked l.hart l.granule (λ h g. None) h g

-- no link is held yet, and no store there can change a byte
abbrev pub HasRoomForLink : Option Link → ℕ → Type 0
HasRoomForLink link at = IsNone link × ((size : ℕ) → in_ram at size ≡ false)
