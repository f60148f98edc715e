-- An address space as a part: its page tables.
use Rattle.std.specs.Option.{option_map_or}
use Rattle.std.specs.Prelude.{Bool, IsTrue, List, None, Option, Some, map, nat_le, not, unwrap_or, ℕ, ◌+◌, ◌≡◌, ◌<◌, [], if◌then◌else◌}
use Rattle.boot_words.specs.Layout.{frame_at, pte_of}
use Rattle.region_plan.specs.Plan.{Region, Work, region_at, space_plan}
use Rattle.rv_fields.specs.Effect.{Entry}
use Rattle.table_space.specs.Tables.{TableSpace, late_way, settled_by, tables_in, unfixed}
use Rattle.trace_text.specs.Lines.{Line, settled}
use Rattle.world_face.specs.Events.{Event, Frames, Settle, Short, Tables, is_short}
use Rattle.world_face.specs.Told.{entry_lines}

-- The leaf of a page that shows an object's page in this frame. Where no region is, none stands on the way, and where there is
-- no frame, none is fixed.
abbrev pub leaf_for : Option Region → Option ℕ → ℕ
leaf_for None frame = 0
leaf_for (Some region) frame = pte_of (frame_at (unwrap_or frame 0)) (region.flags + 1)

-- the way to a page when it is settled
abbrev pub way_settled : Work → TableSpace → Settle → List Entry
way_settled work space s = late_way work space (leaf_for (region_at (space_plan work space.number).regions s.vpage) s.frame) s.vpage

abbrev pub settled_lines : ℕ → ℕ → List Entry → List Line
settled_lines hart space es = map (settled hart space) es

-- the way needs no more tables than are left
abbrev pub has_tables_left : TableSpace → List Entry → Bool
has_tables_left space es = nat_le (tables_in (unfixed space es)) space.left

abbrev pub FrameBelow : ℕ → Option ℕ → Type 0
FrameBelow frames None = Unit {0}
FrameBelow frames (Some frame) = frame < frames

abbrev pub SpaceRight : Work → TableSpace → ℕ → Option Short → Option Settle → List Line → Type 0
SpaceRight work space hart short None told = told ≡ []
SpaceRight work space hart (Some Tables) (Some s) told = IsTrue (not (has_tables_left space (way_settled work space s))) × (told ≡ [])
SpaceRight work space hart (Some Frames) (Some s) told = told ≡ []
SpaceRight work space hart None (Some s) told =
    IsTrue (has_tables_left space (way_settled work space s))
    × (s.path ≡ way_settled work space s)
    × (told ≡ settled_lines hart space.number (unfixed space (way_settled work space s)))
    × FrameBelow work.frames s.frame

-- The entries that were missing are told, and the way that stands then. No table is said to be left only where the way needs
-- more than there are.
abbrev pub space_legal : Work → TableSpace → Event → Type 0
space_legal work space e = SpaceRight work space e.hart e.asked.short e.asked.settle (entry_lines e)

abbrev pub space_after : Work → TableSpace → Event → TableSpace
space_after work space e = if is_short e then space else option_map_or (λ (s : Settle). settled_by space (way_settled work space s)) e.asked.settle space
