-- What an event tells of its parts' answers. All else of it is the hart's own.
use Rattle.std.specs.Prelude.{Bool, List, Option, ℕ, ◌++◌}
use Rattle.rv_fields.specs.declared.access.Accessed.{Accessed}
use Rattle.rv_fields.specs.Name.{Name}
use Rattle.trace_text.specs.Lines.{Line}
use Rattle.world_face.specs.Events.{Event, Settle, Short}
use Rattle.world_face.specs.Told.{Run, access_told, entry_lines, frame_lines, leaf_told, runs_told}

pub record Heard : Type 0 where
  -- the picked leaf; none where the choice was empty
  pub leaf : Option Name
  -- the frame and the entries of a page, or what was lacking, and the lines that tell of them
  pub settle : Option Settle
  pub short : Option Short
  pub told : List Line
  -- the access, of which the hart takes the place and the number read; the untouched bytes of it, and whether a link stood
  pub access : Option Accessed
  pub runs : List Run
  pub probe : Option (ℕ × Bool)

abbrev pub heard_of : Event → Heard
heard_of e = record {
  leaf = leaf_told e;
  settle = e.asked.settle;
  short = e.asked.short;
  told = frame_lines e ++ entry_lines e;
  access = access_told e;
  runs = runs_told e;
  probe = e.asked.probe;
}
