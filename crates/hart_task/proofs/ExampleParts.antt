-- What the example runs are made of.
use Rattle.std.specs.Prelude.{ℕ, true, false, List, [], ◌∷◌, Option, Some, None}
use Rattle.rv_fields.specs.Effect.{Effect, Entry}
use Rattle.rv_fields.specs.declared.access.AccessKind.{AccessKind}
use Rattle.rv_fields.specs.declared.mode.Mode.TheVariants.{U}
use Rattle.rv_fields.specs.declared.row_table.Ins.TheVariants.{Ld}
use Rattle.region_plan.specs.Plan.{HartPlan, Region, SpacePlan, Work, no_hart}
use Rattle.region_plan.specs.Request.{Items, Pins, Plain, Quiet, a_mem, named_ins, one_address}
use Rattle.region_plan.specs.Views.{work_with}
use Rattle.trace_text.specs.Lines.{Line, ending}
use Rattle.world_face.specs.Events.{Event, no_parts, nothing_asked}
use Rattle.world_face.specs.declared.parts.Parts.{Parts}
use Rattle.hart_task.specs.State.{HartState}
use Rattle.hart_task.specs.Turn.{acted}

abbrev pub no_pins : Pins
no_pins = record { rd = None; rs1 = None; rs2 = None; imm = None; aqrl = 0; avoid = []; zero_rs1 = false }

-- pages of the object o, from its first on, that mode U may read and write
abbrev pub pages_at : ℕ → ℕ → Region
pages_at first_page pages = record { name = 0x72 ∷ []; first_page = first_page; pages = pages; object = 0; object_first = 0; flags = 214 }

-- a load of 8 bytes at the address, with no operand pinned
abbrev pub load_at : ℕ → Plain
load_at at = a_mem (record { ins = named_ins Ld; window = one_address at; demand = Quiet; want = None; pins = no_pins })

abbrev pub space_with : Region → SpacePlan
space_with region = record { late_tables = 445; regions = region ∷ [] }

-- a hart of an address space in mode U, which has its code at 0x20000
abbrev pub hart_in : ℕ → Items → HartPlan
hart_in space template = record no_hart { mode = U; space = Some space; code = 0x20000; template = template }

-- harts of address spaces that show the object o
abbrev pub work_of_spaces : List SpacePlan → List HartPlan → Work
work_of_spaces spaces harts = record (work_with harts) { objects = (0x6f ∷ []) ∷ []; spaces = spaces }

-- an event of the hart that holds no part
abbrev pub event_alone : ℕ → List Line → Event
event_alone hart lines = record { hart = hart; parts = no_parts; asked = nothing_asked; lines = lines }

-- the parts of an event that holds a space and the pages of objects
abbrev pub with_space : ℕ → Parts
with_space space = record { space = Some space; pages = true; choices = false; shard = None }

-- the event in which a request of the hart goes the way to a page of its space that shows the first page of o, in the first frame
abbrev pub settles : ℕ → ℕ → ℕ → List Entry → List Line → Event
settles hart space vpage path lines = record {
  hart = hart;
  parts = with_space space;
  asked = record nothing_asked { settle = Some (record { vpage = vpage; object = Some (0, 0); frame = Some 0; path = path }) };
  lines = lines;
}

-- an event of the hart that holds the first shard of data
abbrev pub in_shard : ℕ → List Line → Event
in_shard hart lines = record { hart = hart; parts = record no_parts { shard = Some 0 }; asked = nothing_asked; lines = lines }

-- the leaf of the page at 0x10000 in the first space, where it shows the first frame, and the way to it
abbrev pub leaf : Entry
leaf = record { at = 0x80104080; pte = 0x218000d7 }

abbrev pub way : List Entry
way = record { at = 0x80100000; pte = 0x20040c01 } ∷ record { at = 0x80103000; pte = 0x20041001 } ∷ leaf ∷ []

-- a word that stands at an address of a window and touches no memory
abbrev pub plain_effect_at : ℕ → ℕ → ℕ → ℕ → Option (ℕ × ℕ) → Effect
plain_effect_at hart pc pa word rd = record { hart = hart; pc = pc; pa = Some pa; word = Some word; rd = rd; access = None; trail = []; trap = None }

-- the step accesses 8 bytes at the start of the first frame, by this way
abbrev pub moving : AccessKind → ℕ → Option ℕ → Option ℕ → List Entry → Effect → Effect
moving kind va read wrote path e = record e {
  access = Some (record { kind = kind; va = va; pa = 0x86000000; size = 8; read = read; wrote = wrote });
  trail = path;
}

-- the event in which the hart ends at the address
abbrev pub ends_at : ℕ → ℕ → ℕ → Event
ends_at hart pc pa = event_alone hart (ending (plain_effect_at hart pc pa 0x6f None) ∷ [])

-- the state behind events
abbrev pub behind : Work → HartState → List Event → HartState
behind work state [] = state
behind work state (e ∷ es) = behind work (acted work state e) es
