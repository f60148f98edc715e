-- The page tables of a space: what is fixed before the run, and what a memory request fixes.
use Rattle.std.specs.List.{list_any, range_with_len}
use Rattle.std.specs.Prelude.{Bool, List, None, Option, Some, filter, flat_map, is_none, length, map, nat_lt, not, suc, true, zero, ℕ, ◌+◌, ◌-◌, ◌*◌, ◌/◌, ◌%◌, ◌^◌, ◌==◌, ◌&&◌, ◌||◌, ◌∷◌, [], if◌then◌else◌}
use Rattle.boot_words.specs.Layout.{code_start, s_handler_at, handler_page, pte_of, table_at}
use Rattle.region_plan.specs.Plan.{Work, page_of, page_size, plan_of, space_plan, is_it}
use Rattle.rv_fields.specs.Effect.{Entry}
use Rattle.rv_fields.specs.Immediate.{bits_of}
use Rattle.rv_fields.specs.Status.{mode_number}
use Rattle.rv_fields.specs.Hart.{updated}
use Rattle.rv_fields.specs.declared.mode.Mode.{Mode}

-- the fixed entries by physical address, the number of tables made, and how many more may be made
pub record TableSpace : Type 0 where
  pub number : ℕ
  pub entries : ℕ → Option ℕ
  pub made : ℕ
  pub left : ℕ

-- the entry of a level in a table, for a page: 0 is the level of the leaves
abbrev pub entry_for_page : ℕ → ℕ → ℕ → ℕ
entry_for_page table page level = table + 8 * bits_of page (9 * level) 9

-- an entry that points to a table
abbrev pub points_to_table : ℕ → Bool
points_to_table pte = pte % 16 == 1

-- from an entry on, where below it is the way from a table, so many being made
abbrev pub way_at : TableSpace → Bool → ℕ → ℕ → ℕ → ℕ → (ℕ → ℕ → List Entry) → Option ℕ → List Entry
way_at space lies leaf level made at below (Some pte) =
    record { at = at; pte = pte } ∷ (if points_to_table pte then below (pte / 2 ^ 10 * page_size) made else [])
way_at space lies leaf level made at below None =
    if not lies then record { at = at; pte = 0 } ∷ []
    else (if level == 0 then record { at = at; pte = leaf } ∷ []
    else record { at = at; pte = pte_of (table_at space.number made) 1 } ∷ below (table_at space.number made) (made + 1))

-- What stands on a page's way from a table down, so many levels above the leaf, where missing entries are made: new tables
-- in the order of their numbers, the leaf, and 0 for the first entry under which nothing lies.
abbrev pub way : TableSpace → (ℕ → Bool) → ℕ → ℕ → ℕ → ℕ → ℕ → List Entry
way space lies leaf page zero table made = []
way space lies leaf page (suc level) table made =
    way_at space (lies level) leaf level made (entry_for_page table page level) (way space lies leaf page level) (space.entries (entry_for_page table page level))

-- the whole way from the root
abbrev pub way_to : TableSpace → (ℕ → Bool) → ℕ → ℕ → List Entry
way_to space lies leaf page = way space lies leaf page 3 (table_at space.number 0) space.made

-- the entries of a way that weren't fixed before, and the tables among what they point to
abbrev pub unfixed : TableSpace → List Entry → List Entry
unfixed space = filter (λ e. is_none (space.entries e.at))

abbrev pub tables_in : List Entry → ℕ
tables_in entries = length (filter (λ e. points_to_table e.pte) entries)

abbrev pub with_entries : (ℕ → Option ℕ) → List Entry → ℕ → Option ℕ
with_entries entries [] = entries
with_entries entries (e ∷ es) = with_entries (updated entries e.at (Some e.pte)) es

-- the space when what is missing on a way is fixed
abbrev pub settled_by : TableSpace → List Entry → TableSpace
settled_by space es = record space {
  entries = with_entries space.entries es;
  made = space.made + tables_in (unfixed space es);
  left = space.left - tables_in (unfixed space es);
}

-- ---- before the run: the pages of the handler and of the windows

-- a page, and its leaf
pub record StaticPage : Type 0 where
  pub page : ℕ
  pub leaf : ℕ

-- code is for executing alone, and is a user page for mode U
abbrev pub code_leaf : Mode → ℕ → ℕ
code_leaf mode pa = pte_of pa (if mode_number mode == 0 then 0x59 else 0x49)

abbrev pub window_pages : Work → ℕ → List StaticPage
window_pages work h = map (λ i. record { page = page_of (plan_of work h).code + i; leaf = code_leaf (plan_of work h).mode (code_start h + i * page_size) })
    (range_with_len 0 (plan_of work h).code_pages)

abbrev pub is_of_space : Work → ℕ → ℕ → Bool
is_of_space work number h = is_it number (plan_of work h).space

-- those of a space in the order in which its tables are made: the handler's, then those of its harts
abbrev pub static_pages : Work → ℕ → List StaticPage
static_pages work number = record { page = handler_page; leaf = pte_of s_handler_at 0x49 }
    ∷ flat_map (window_pages work) (filter (is_of_space work number) (range_with_len 0 (length work.harts)))

abbrev pub with_static : TableSpace → List StaticPage → TableSpace
with_static space [] = space
with_static space (p ∷ ps) = with_static (settled_by space (way_to space (λ level. true) p.leaf p.page)) ps

-- the space before any event
abbrev pub opening_space : Work → ℕ → TableSpace
opening_space work number =
    record (with_static (record { number = number; entries = λ at. None; made = 1; left = 0 }) (static_pages work number)) {
      left = (space_plan work number).late_tables;
    }

abbrev pub meets_entry : ℕ → ℕ → ℕ → ℕ → Bool
meets_entry page level first count =
    nat_lt first ((page / 2 ^ (9 * level) + 1) * 2 ^ (9 * level)) && nat_lt (page / 2 ^ (9 * level) * 2 ^ (9 * level)) (first + count)

-- ---- in the run

-- a page of a region, or of the handler or a window, lies under a page's entry of this level
abbrev pub lies_under : Work → ℕ → ℕ → ℕ → Bool
lies_under work number page level =
    list_any (λ r. meets_entry page level r.first_page r.pages) (space_plan work number).regions
    || list_any (λ p. meets_entry page level p.page 1) (static_pages work number)

-- the way to a page that a memory request settles
abbrev pub late_way : Work → TableSpace → ℕ → ℕ → List Entry
late_way work space leaf page = way_to space (lies_under work space.number page) leaf page
