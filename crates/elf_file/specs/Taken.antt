-- How the code keeps the addresses that segments take: a map from where each begins to where it ends.
use Rattle.std.specs.Prelude.{ℕ, ◌≡◌, ◌+◌, ◌<◌, ◌≤◌, List, Contains, Some}
use Rattle.std.specs.Ordering.{nat_cmp}
use Rattle.std.specs.BTreeMap.{BTreeMap, get}
use Rattle.elf_file.specs.declared.fields.ProgramHeader.{ProgramHeader}

-- the addresses from the one to the other are an entry of the map
abbrev pub TakesSpan : BTreeMap ℕ ℕ → ℕ → ℕ → Type 0
TakesSpan ends at end = get nat_cmp ends at ≡ Some end

-- the entries have addresses, and share none
pub record IsSpread (ends : BTreeMap ℕ ℕ) : Type 0 where
  pub some : (at end : ℕ) → TakesSpan ends at end → at < end
  pub apart : (at end next last : ℕ) → TakesSpan ends at end → TakesSpan ends next last → at < next → end ≤ next

-- an entry that has an address between the two
pub record IsTaken (ends : BTreeMap ℕ ℕ) (at end : ℕ) : Type 0 where
  pub first : ℕ
  pub last : ℕ
  pub entry : TakesSpan ends first last
  pub before : first < end
  pub behind : at < last

-- The map has the addresses of the segments, but for segments without any.
pub record AreTaken (hs : List ProgramHeader) (ends : BTreeMap ℕ ℕ) : Type 0 where
  pub spread : IsSpread ends
  pub there : (h : ProgramHeader) → Contains hs h → 0 < h.memsz → TakesSpan ends h.paddr (h.paddr + h.memsz)
  pub only : (at end : ℕ) → TakesSpan ends at end → (h : ProgramHeader) × Contains hs h × (h.paddr ≡ at) × (h.paddr + h.memsz ≡ end)
