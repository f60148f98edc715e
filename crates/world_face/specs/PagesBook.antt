-- The pages book as a part: the objects' pages that have frames, in the order of these.
use Rattle.std.specs.Option.{option_map_or}
use Rattle.std.specs.Prelude.{List, None, Option, Some, get_or, is_none, length, ℕ, ◌+◌, ◌==◌, ◌&&◌, ◌∷◌, ◌++◌, ◌≡◌, ◌≤◌, [], if◌then◌else◌}
use Rattle.region_plan.specs.Plan.{Work}
use Rattle.trace_text.specs.Lines.{Line, given}
use Rattle.world_face.specs.Events.{Event, Frames, Settle, Short, Tables, is_short}
use Rattle.world_face.specs.Told.{frame_lines}

abbrev pub Book : Type 0
Book = List (ℕ × ℕ)

-- the frame of an object's page, counted from one on
abbrev pub frame_from : ℕ → Book → ℕ × ℕ → Option ℕ
frame_from number [] page = None
frame_from number (p ∷ ps) page = if p.0 == page.0 && (p.1 == page.1) then Some number else frame_from (number + 1) ps page

abbrev pub frame_of : Book → ℕ × ℕ → Option ℕ
frame_of book page = frame_from 0 book page

-- the book when the page has a frame
abbrev pub with_page : Book → ℕ × ℕ → Book
with_page book page = if is_none (frame_of book page) then book ++ page ∷ [] else book

-- the lines that tell of it
abbrev pub given_lines : Work → ℕ → Book → ℕ × ℕ → List Line
given_lines work hart book page =
    if is_none (frame_of book page) then given hart (get_or work.objects page.0 []) page.1 (length book) ∷ [] else []

abbrev pub settled_page : Option Settle → Option (ℕ × ℕ)
settled_page settle = option_map_or (λ (s : Settle). s.object) settle None

abbrev pub settled_frame : Option Settle → Option ℕ
settled_frame settle = option_map_or (λ (s : Settle). s.frame) settle None

abbrev pub PagesRight : Work → Book → ℕ → Option Short → Option (ℕ × ℕ) → Option ℕ → List Line → Type 0
PagesRight work book hart (Some Frames) (Some page) frame told = (frame_of book page ≡ None) × (length book ≡ work.frames) × (told ≡ [])
PagesRight work book hart (Some Frames) None frame told = ⊥
PagesRight work book hart (Some Tables) page frame told = told ≡ []
PagesRight work book hart None (Some page) frame told =
    (frame ≡ frame_of (with_page book page) page) × (told ≡ given_lines work hart book page) × (length (with_page book page) ≤ work.frames)
PagesRight work book hart None None frame told = told ≡ []

-- A settled page has its frame, which is told where it is new. No frame is said to be left only where the page has none and
-- all are given. What is refused gives none.
abbrev pub pages_legal : Work → Book → Event → Type 0
pages_legal work book e = PagesRight work book e.hart e.asked.short (settled_page e.asked.settle) (settled_frame e.asked.settle) (frame_lines e)

abbrev pub pages_after : Book → Event → Book
pages_after book e = if is_short e then book else option_map_or (with_page book) (settled_page e.asked.settle) book
