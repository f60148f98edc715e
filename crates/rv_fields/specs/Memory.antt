-- Memory: a byte at each address of RAM, the links of harts to it, and what a part of these tells.
use Rattle.std.specs.Prelude.{ℕ, zero, suc, ◌≡◌, ◌+◌, ◌-◌, ◌*◌, ◌/◌, ◌%◌, ◌^◌, ◌⊎◌, ◌==◌, List, [], ◌∷◌, Option, Some, None, option_map, nat_le, nat_lt, Bool, true, false, ◌&&◌, if◌then◌else◌}
use Rattle.rv_fields.specs.Attempt.{◌>>=◌}
use Rattle.rv_fields.specs.declared.access.AccessKind.{AccessKind}
use Rattle.rv_fields.specs.declared.access.AccessKind.TheVariants.{Load, Store, Lr, Sc, Amo}
use Rattle.rv_fields.specs.Effect.{Accessed}

-- the first address of RAM, and the first one past it
abbrev pub ram_start : ℕ
ram_start = 0x80000000

abbrev pub ram_end : ℕ
ram_end = 0x90000000

-- so many bytes from the address on lie in RAM
abbrev pub in_ram : ℕ → ℕ → Bool
in_ram at size = nat_le ram_start at && nat_le (at + size) ram_end

-- the numbers of bytes that an instruction loads or stores
abbrev pub IsSize : ℕ → Type 0
IsSize size = (size ≡ 1) ⊎ (size ≡ 2) ⊎ (size ≡ 4) ⊎ (size ≡ 8)

-- the number that bytes spell, the lowest first
abbrev pub number_of : List ℕ → ℕ
number_of [] = 0
number_of (b ∷ bs) = b + 256 * number_of bs

-- What is told of memory: some bytes. Of those outside RAM nothing is said.
abbrev pub Bytes : Type 0
Bytes = ℕ → Option ℕ

-- a complete memory tells each byte
abbrev pub whole : (ℕ → ℕ) → Bytes
whole memory at = Some (memory at)

-- the bytes from the address on, where each is told
abbrev pub told_bytes : Bytes → ℕ → ℕ → Option (List ℕ)
told_bytes byte at zero = Some []
told_bytes byte at (suc size) = do
  b ← byte at
  bs ← told_bytes byte (at + 1) size
  Some (b ∷ bs)

-- What is told of the number of this size at the address: nothing, or that there is no RAM, or the number.
abbrev pub told : Bytes → ℕ → ℕ → Option (Option ℕ)
told byte at size =
    if in_ram at size then option_map (λ bs. Some (number_of bs)) (told_bytes byte at size) else Some None

-- memory in which the number stands at the address, in so many bytes, the lowest first; elsewhere it is as before
abbrev pub stored : Bytes → ℕ → ℕ → ℕ → Bytes
stored before at size value a = if nat_le at a && nat_lt a (at + size) then Some (value / 256 ^ (a - at) % 256) else before a

-- ---- links: which harts have loaded a granule by LR, while no other has stored to it

-- the 64 bytes that a link is of
abbrev pub granule : ℕ → ℕ
granule at = at / 64

-- whether a hart's link to a granule stands, where that is told
abbrev pub Links : Type 0
Links = ℕ → ℕ → Option Bool

-- the hart's link to the granule stands from now on
abbrev pub linked : ℕ → ℕ → Links → Links
linked hart place before h g = if (g == place) && (h == hart) then Some true else before h g

-- no other hart's link to the granule stands any more
abbrev pub unlinked : ℕ → ℕ → Links → Links
unlinked hart place before h g = if g == place then (if h == hart then before h g else Some false) else before h g

-- ---- what is told of both, and what accesses make of it

pub record Seen : Type 0 where
  pub byte : Bytes
  pub link : Links

-- what a hart's access leaves of the links: an LR adds its own, and what writes takes away those of others
abbrev pub links_after : AccessKind → ℕ → ℕ → Links → Links
links_after Load hart place links = links
links_after Lr hart place links = linked hart place links
links_after Store hart place links = unlinked hart place links
links_after Sc hart place links = unlinked hart place links
links_after Amo hart place links = unlinked hart place links

abbrev pub bytes_after : Accessed → Option ℕ → Bytes → Bytes
bytes_after a None bytes = bytes
bytes_after a (Some value) bytes = stored bytes a.pa a.size value

-- memory and links after a hart's step that accessed this
abbrev pub after_access : ℕ → Option Accessed → Seen → Seen
after_access hart None seen = seen
after_access hart (Some a) seen = record {
  byte = bytes_after a a.wrote seen.byte;
  link = links_after a.kind hart (granule a.pa) seen.link;
}

-- ---- all is told

-- each byte is told, and each link
pub record IsWhole (seen : Seen) : Type 0 where
  pub bytes : (a : ℕ) → (b : ℕ) × (seen.byte a ≡ Some b)
  pub links : (h g : ℕ) → (stands : Bool) × (seen.link h g ≡ Some stands)
