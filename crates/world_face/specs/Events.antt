-- An event is what a hart does at once, with the shared parts that it holds meanwhile.
use Rattle.region_plan.specs.Plan.{is_it}
use Rattle.std.specs.Prelude.{Bool, List, None, Option, false, is_some, ℕ, ◌==◌}
use Rattle.rv_fields.specs.Effect.{Entry}
use Rattle.trace_text.specs.Lines.{Line}
pub use Rattle.world_face.specs.declared.parts.Parts.{Parts}

abbrev pub no_parts : Parts
no_parts = record { space = None; pages = false; choices = false; shard = None }

-- What a memory request asks of its space and of the pages book: for its virtual page, the object's page that is shown there,
-- the frame of that page, and the entries on the page's way. A refused one gets neither.
pub record Settle : Type 0 where
  pub vpage : ℕ
  pub object : Option (ℕ × ℕ)
  pub frame : Option ℕ
  pub path : List Entry

-- what was lacking
pub data Short : Type 0 where
  Frames : Short
  Tables : Short

-- a number of so many bytes that a load wants to read at some place of a physical page
pub record Wanted : Type 0 where
  pub page : ℕ
  pub size : ℕ
  pub value : ℕ

-- What an event asks of its parts. pick: the tree's number in the job, and the drawn word. probe: the physical address of an
-- SC that doesn't trap, and whether the hart's link stood there.
pub record Asked : Type 0 where
  pub pick : Option (ℕ × ℕ)
  pub settle : Option Settle
  pub short : Option Short
  pub wanted : Option Wanted
  pub probe : Option (ℕ × Bool)

abbrev pub nothing_asked : Asked
nothing_asked = record { pick = None; settle = None; short = None; wanted = None; probe = None }

pub record Event : Type 0 where
  pub hart : ℕ
  pub parts : Parts
  pub asked : Asked
  pub lines : List Line

-- an event at its place in the run of all harts, counted from 0
pub record Placed : Type 0 where
  pub place : ℕ
  pub event : Event

-- the events that are of a hart, or that hold a part
abbrev pub is_of_hart : ℕ → Event → Bool
is_of_hart h e = e.hart == h

pub data Part : Type 0 where
  a_space : ℕ → Part
  the_pages : Part
  the_choices : Part
  a_shard : ℕ → Part

abbrev pub holds : Part → Event → Bool
holds (a_space n) e = is_it n e.parts.space
holds the_pages e = e.parts.pages
holds the_choices e = e.parts.choices
holds (a_shard n) e = is_it n e.parts.shard

-- the request was refused for want of a frame or a table
abbrev pub is_short : Event → Bool
is_short e = is_some e.asked.short
