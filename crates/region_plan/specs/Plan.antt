-- A job without where it lies in memory, and what its address spaces allow.
use Rattle.std.specs.List.{range_with_len}
use Rattle.std.specs.Option.{option_map_or}
use Rattle.std.specs.Prelude.{Bool, List, None, Option, Some, false, find, get_or, length, nat_le, nat_lt, not, ℕ, ◌+◌, ◌-◌, ◌*◌, ◌/◌, ◌==◌, ◌&&◌, ◌||◌, ◌∷◌, [], if◌then◌else◌}
use Rattle.rv_fields.specs.declared.mode.Mode.TheVariants.{M}
use Rattle.region_plan.specs.Request.{Items, Window, in_pages, in_region, no_items, one_address}
use Rattle.rv_fields.specs.Immediate.{bits_of}
use Rattle.rv_fields.specs.Status.{mode_number}
use Rattle.rv_fields.specs.declared.mode.Mode.{Mode}
use Rattle.rv_fields.specs.Name.{Name}

-- Pages of a space, from the first one on, that show pages of an object, from one on. The flags are bits of their leaves.
pub record Region : Type 0 where
  pub name : Name
  pub first_page : ℕ
  pub pages : ℕ
  pub object : ℕ
  pub object_first : ℕ
  pub flags : ℕ

pub record SpacePlan : Type 0 where
  pub late_tables : ℕ
  pub regions : List Region

-- A hart of mode M has no space, and its code address is 0.
pub record HartPlan : Type 0 where
  pub mode : Mode
  pub space : Option ℕ
  pub code : ℕ
  pub code_pages : ℕ
  pub sum : Bool
  pub tvm : Bool
  pub deleg : ℕ
  pub template : Items

pub record Work : Type 0 where
  pub budget : ℕ
  pub frames : ℕ
  pub objects : List Name
  pub spaces : List SpacePlan
  pub harts : List HartPlan
  -- the tree names, in the order in which they first occur
  pub trees : List Name

-- the hart that a job hasn't
abbrev pub no_hart : HartPlan
no_hart = record { mode = M; space = None; code = 0; code_pages = 1; sum = false; tvm = false; deleg = 0; template = no_items }

abbrev pub plan_of : Work → ℕ → HartPlan
plan_of work h = get_or work.harts h no_hart

abbrev pub space_plan : Work → ℕ → SpacePlan
space_plan work number = get_or work.spaces number (record { late_tables = 0; regions = [] })

-- the regions of a hart's space
abbrev pub regions_of : Work → ℕ → List Region
regions_of work h = option_map_or (λ (number : ℕ). (space_plan work number).regions) (plan_of work h).space []

abbrev pub hart_count : Work → ℕ
hart_count work = length work.harts

-- it is this number
abbrev pub is_it : ℕ → Option ℕ → Bool
is_it n None = false
is_it n (Some m) = n == m

-- ---- pages

abbrev pub page_size : ℕ
page_size = 4096

abbrev pub page_of : ℕ → ℕ
page_of address = address / page_size

abbrev pub page_start : ℕ → ℕ
page_start page = page * page_size

abbrev pub no_region : Region
no_region = record { name = []; first_page = 0; pages = 0; object = 0; object_first = 0; flags = 0 }

abbrev pub pages_of_region : Region → Option ℕ → List ℕ
pages_of_region region None = range_with_len region.first_page region.pages
pages_of_region region (Some page) = (region.first_page + page) ∷ []

-- the pages of a window, in rising order
abbrev pub pages_in : List Region → Window → List ℕ
pages_in regions (in_region r page) = pages_of_region (get_or regions r no_region) page
pages_in regions (in_pages at count) = range_with_len (page_of at) count
pages_in regions (one_address address) = page_of address ∷ []

-- ---- class

abbrev pub shows : ℕ → Region → Bool
shows page region = nat_le region.first_page page && nat_lt page (region.first_page + region.pages)

abbrev pub region_at : List Region → ℕ → Option Region
region_at regions page = find (shows page) regions

-- the object's page that a region shows at a page
abbrev pub object_page : ℕ → Region → ℕ × ℕ
object_page page region = (region.object, region.object_first + (page - region.first_page))

abbrev pub has_flag : ℕ → ℕ → Bool
has_flag place flags = bits_of flags place 1 == 1

-- user pages are open to mode U alone, and to mode S where sum says so; the others not to mode U
abbrev pub opens_to : HartPlan → ℕ → Bool
opens_to plan flags = if mode_number plan.mode == 0 then has_flag 4 flags else (not (has_flag 4 flags) || plan.sum)

-- A flag A is set, and W and D for a store.
abbrev pub allows_region : HartPlan → Bool → Region → Bool
allows_region plan is_store region =
    has_flag 6 region.flags && opens_to plan region.flags && (not is_store || (has_flag 2 region.flags && has_flag 7 region.flags))

-- The class of a page's addresses for a hart's loads or stores: whether they are open to it. All that lies in no region isn't.
abbrev pub may_access : Work → ℕ → Bool → ℕ → Bool
may_access work h is_store page = option_map_or (allows_region (plan_of work h) is_store) (region_at (regions_of work h) page) false
