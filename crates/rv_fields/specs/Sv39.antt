-- Sv39: how addresses are translated by page tables.
use Rattle.std.specs.Prelude.{ℕ, zero, suc, ◌+◌, ◌-◌, ◌*◌, ◌/◌, ◌%◌, ◌^◌, ◌==◌, List, [], ◌∷◌, Option, Some, None, option_map, Bool, true, not, ◌&&◌, ◌||◌, if◌then◌else◌}
use Rattle.rv_fields.specs.declared.access.Access.{Access}
use Rattle.rv_fields.specs.declared.access.Access.TheVariants.{Fetch, Load, Store}
use Rattle.rv_fields.specs.declared.mode.Mode.{Mode}
use Rattle.rv_fields.specs.declared.mode.Mode.TheVariants.{U, S, M}
use Rattle.rv_fields.specs.Attempt.{◌>>=◌}
use Rattle.rv_fields.specs.Effect.{Entry}
use Rattle.rv_fields.specs.Field.{field_of}
use Rattle.rv_fields.specs.Immediate.{bits_of}
use Rattle.rv_fields.specs.Memory.{Bytes, told}
use Rattle.rv_fields.specs.Status.{satp_mode}

-- the causes of a page fault, of an access fault and of a misaligned address
abbrev pub page_fault : Access → ℕ
page_fault Fetch = 12
page_fault Load = 13
page_fault Store = 15

abbrev pub access_fault : Access → ℕ
access_fault Fetch = 1
access_fault Load = 5
access_fault Store = 7

abbrev pub misaligned : Access → ℕ
misaligned Fetch = 0
misaligned Load = 4
misaligned Store = 6

-- by what rights an address is used: the mode, and SUM and MXR of mstatus
pub record Rights : Type 0 where
  pub mode : Mode
  pub sum : Bool
  pub mxr : Bool

-- what is told of page table entries: nothing, or that there is no RAM, or the entry at the address
abbrev pub Entries : Type 0
Entries = ℕ → Option (Option ℕ)

-- those that stand in memory
abbrev pub entries_in : Bytes → Entries
entries_in bytes at = told bytes at 8

-- ---- an entry: V 0, R 1, W 2, X 3, U 4, G 5, A 6, D 7, PPN 53 to 10, and reserved bits above

abbrev pub has_bit : ℕ → ℕ → Bool
has_bit place pte = bits_of pte place 1 == 1

abbrev pub is_valid : ℕ → Bool
is_valid pte = has_bit 0 pte

abbrev pub is_readable : ℕ → Bool
is_readable pte = has_bit 1 pte

abbrev pub is_writable : ℕ → Bool
is_writable pte = has_bit 2 pte

abbrev pub is_executable : ℕ → Bool
is_executable pte = has_bit 3 pte

abbrev pub is_of_user : ℕ → Bool
is_of_user pte = has_bit 4 pte

abbrev pub is_accessed : ℕ → Bool
is_accessed pte = has_bit 6 pte

abbrev pub is_dirty : ℕ → Bool
is_dirty pte = has_bit 7 pte

abbrev pub page_number : ℕ → ℕ
page_number pte = bits_of pte 10 44

-- it has the form of an entry: V is set, W not without R, and no reserved bit
abbrev pub is_formed : ℕ → Bool
is_formed pte = is_valid pte && (is_readable pte || not (is_writable pte)) && (pte / 2 ^ 54 == 0)

-- it points to a table
abbrev pub is_pointer : ℕ → Bool
is_pointer pte = not (is_readable pte) && not (is_executable pte)

-- a pointer has none of A, D and U
abbrev pub is_good_pointer : ℕ → Bool
is_good_pointer pte = not (is_of_user pte || is_accessed pte || is_dirty pte)

-- the page may be used so: fetched from with X; loaded from with R, or with X where MXR is set; stored to with W and D
abbrev pub allows_access : Access → Rights → ℕ → Bool
allows_access Fetch rights pte = is_executable pte
allows_access Load rights pte = is_readable pte || (is_executable pte && rights.mxr)
allows_access Store rights pte = is_writable pte && is_dirty pte

-- the page may be used by the mode: a user page in mode U, and in mode S for data where SUM is set; another not in mode U
abbrev pub allows_mode : Access → Rights → Mode → ℕ → Bool
allows_mode access rights U pte = is_of_user pte
allows_mode Fetch rights mode pte = not (is_of_user pte)
allows_mode Load rights mode pte = not (is_of_user pte) || rights.sum
allows_mode Store rights mode pte = not (is_of_user pte) || rights.sum

abbrev pub allows : Access → Rights → ℕ → Bool
allows access rights pte = allows_access access rights pte && allows_mode access rights rights.mode pte && is_accessed pte

-- ---- the walk

-- the physical address, or the cause of a fault
pub data Translated : Type 0 where
  reached : ℕ → Translated
  faults : ℕ → Translated

-- with the entries that were read, from the root down
pub record Walked : Type 0 where
  pub trail : List Entry
  pub result : Translated

abbrev pub behind_entry : Entry → Walked → Walked
behind_entry e w = record { trail = e ∷ w.trail; result = w.result }

-- A leaf of a level: level 0 has pages of 4 KiB, and each level above pages 512 times as large, whose page numbers are
-- multiples of their size.
abbrev pub leaf_translated : Access → Rights → ℕ → ℕ → ℕ → Translated
leaf_translated access rights va level pte =
    if allows access rights pte && (page_number pte % 2 ^ (9 * level) == 0)
    then reached (page_number pte * 2 ^ 12 + va % 2 ^ (12 + 9 * level)) else faults (page_fault access)

-- A pointer of a level leads to a table of the level below. There is none below level 0.
abbrev pub pointer_walked : Access → ℕ → ℕ → (ℕ → Option Walked) → Option Walked
pointer_walked access level pte below =
    if is_good_pointer pte && not (level == 0) then below (page_number pte)
    else Some (record { trail = []; result = faults (page_fault access) })

abbrev pub pte_walked : Access → Rights → ℕ → ℕ → ℕ → (ℕ → Option Walked) → Option Walked
pte_walked access rights va level pte below =
    if is_formed pte then
    (if is_pointer pte then pointer_walked access level pte below
    else Some (record { trail = []; result = leaf_translated access rights va level pte }))
    else Some (record { trail = []; result = faults (page_fault access) })

-- where the entry lies outside RAM, that is an access fault, and it isn't read
abbrev pub entry_walked : Access → Rights → ℕ → ℕ → ℕ → (ℕ → Option Walked) → Option ℕ → Option Walked
entry_walked access rights va level at below None = Some (record { trail = []; result = faults (access_fault access) })
entry_walked access rights va level at below (Some pte) =
    option_map (behind_entry (record { at = at; pte = pte })) (pte_walked access rights va level pte below)

-- where an address has its entry in the table of this page number, at a level
abbrev pub entry_at : ℕ → ℕ → ℕ → ℕ
entry_at va level table = table * 2 ^ 12 + 8 * bits_of va (12 + 9 * level) 9

-- A walk over so many levels, the uppermost with the table of this page number. None where an entry isn't told.
abbrev pub walk_from : Entries → Access → Rights → ℕ → ℕ → ℕ → Option Walked
walk_from entries access rights va zero table = Some (record { trail = []; result = faults (page_fault access) })
walk_from entries access rights va (suc level) table =
    entries (entry_at va level table) >>= entry_walked access rights va level (entry_at va level table) (walk_from entries access rights va level)

-- bits 63 to 39 of the address are as bit 38
abbrev pub is_canonical : ℕ → Bool
is_canonical va = va / 2 ^ 38 == 0 || va / 2 ^ 38 == 2 ^ 26 - 1

-- the page number of the root in satp
abbrev pub root_of : ℕ → ℕ
root_of satp = bits_of satp 0 44

-- the walk from the root; an address that isn't canonical has none
abbrev pub walk : Entries → ℕ → Rights → Access → ℕ → Option Walked
walk entries satp rights access va =
    if is_canonical va then walk_from entries access rights va 3 (root_of satp)
    else Some (record { trail = []; result = faults (page_fault access) })

-- nothing is translated in mode M, nor where satp's mode is 0
abbrev pub is_bare : Mode → ℕ → Bool
is_bare M satp = true
is_bare S satp = field_of satp_mode satp == 0
is_bare U satp = field_of satp_mode satp == 0

abbrev pub translate : Entries → ℕ → Rights → Access → ℕ → Option Walked
translate entries satp rights access va =
    if is_bare rights.mode satp then Some (record { trail = []; result = reached va }) else walk entries satp rights access va
