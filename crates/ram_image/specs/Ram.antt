-- RAM as it is kept: pages where something was written, and zeros elsewhere.
use Rattle.std.specs.Prelude.{ℕ, zero, suc, [], ◌∷◌, ◌+◌, ◌-◌, ◌/◌, ◌%◌, List, slice_index, slice_index_or, Option, Some, None, Bool, is_some, nat_le, if◌then◌else◌}
use Rattle.std.specs.declared.alloc.Global.{Global}
use Rattle.std.specs.declared.boxed.Box.{Box}
use Rattle.rv_fields.specs.Memory.{ram_start}
use Rattle.ram_image.specs.declared.ram.Ram.{Ram}

-- a page, where one is kept
abbrev pub Page : Type 0
Page = Option (Box (List ℕ) Global)

-- the byte at a place of a page; 0 where none is kept
abbrev pub page_byte : Page → ℕ → ℕ
page_byte None place = 0
page_byte (Some page) place = slice_index page.value place

-- the page of an address
unfoldable pub page_at : List Page → ℕ → Page
page_at pages a = if nat_le ram_start a then slice_index_or pages ((a - ram_start) / 4096) None else None

-- the byte at each address
unfoldable pub memory : Ram → ℕ → ℕ
memory ram a = page_byte (page_at ram.pages.items a) ((a - ram_start) % 4096)

-- there is room for a store at the address
unfoldable pub is_reserved : Ram → ℕ → Bool
is_reserved ram a = is_some (page_at ram.pages.items a)

-- so many bytes of a memory, from the address on
abbrev pub bytes_from : (ℕ → ℕ) → ℕ → ℕ → List ℕ
bytes_from memory at zero = []
bytes_from memory at (suc size) = memory at ∷ bytes_from memory (at + 1) size
