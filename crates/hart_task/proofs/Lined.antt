-- What an event's lines tell.
use Rattle.std.proofs.Common.{ℕ, ◌≡◌, ◌⊎◌, inl, inr, List, [], ◌∷◌, ◌++◌, Option, Some, None, refl, sym, ap, ◌∙◌, map}
use Rattle.std.specs.List.{AllByRecursion}
use Rattle.std.specs.Prelude.{option_to_list, filter_map}
use Rattle.std.specs.Option.{option_map_or}
use Rattle.std.proofs.lemmas.List.Elements.{filter_map-append}
use Rattle.rv_fields.specs.Effect.{Effect}
use Rattle.rv_fields.specs.Name.{Name}
use Rattle.rv_fields.specs.Play.{Machine}
use Rattle.rv_fields.specs.declared.access.Accessed.{Accessed}
use Rattle.region_plan.specs.Plan.{Work}
use Rattle.trace_text.specs.Lines.{Line, done, effect_of, effects_of, ending, fixed, found, given, made, picked, refused, request, settled, touched, weighed}
use Rattle.trace_fields.specs.declared.request.Cause.{Cause}
use Rattle.world_face.specs.Events.{Event}
use Rattle.world_face.specs.Told.{Run, Told, Weighing, access_told, entry_lines, first, frame_lines, nothing_told, runs_told, told_by}
use Rattle.world_face.proofs.Bytes.{RunsStand}
use Rattle.hart_task.specs.Acts.{Begun, Came, Fixing, Picking, Stepping, answers, begin_lines, begins, event_of, fixing_lines, is_found, is_last, is_made, pick_lines, refuses, step_line, steps, tree_name, weighing_lines, weighing_of}
use Rattle.hart_task.specs.Heard.{heard_of}
use Rattle.hart_task.proofs.Going.{EachFixed}
use Rattle.hart_task.proofs.Standing.{HasFixed, WordStands}

-- ---- a step

abbrev pub told_in : {A : Type 0} → (Told → Option A) → List Line → List A
told_in kind lines = filter_map kind (map told_by lines)

abbrev access_in : Told → Option Accessed
access_in t = t.access

abbrev run_in : Told → Option Run
run_in t = t.run

abbrev frame_in : Told → Option Line
frame_in t = t.frame

abbrev entry_in : Told → Option Line
entry_in t = t.entry

abbrev pub step_tail : ℕ → Stepping → List Line
step_tail h x = step_line x.came x.effect ∷ option_map_or (λ (k : ℕ). done h k ∷ []) x.ends []

tail_access : (h : ℕ) (came : Came) (e : Effect) (ends : Option ℕ) → first (told_in access_in (step_line came e ∷ option_map_or (λ (k : ℕ). done h k ∷ []) ends [])) ≡ e.access
tail_access h came e ends = of came e.access refl ends
  where
    of : (came : Came) (a : Option Accessed) → a ≡ e.access → (ends : Option ℕ) → first (told_in access_in (step_line came e ∷ option_map_or (λ (k : ℕ). done h k ∷ []) ends [])) ≡ e.access
    of is_made None is None = rw (sym is) refl
    of is_made None is (Some k) = rw (sym is) refl
    of is_made (Some a) is ends = rw (sym is) refl
    of is_found None is None = rw (sym is) refl
    of is_found None is (Some k) = rw (sym is) refl
    of is_found (Some a) is ends = rw (sym is) refl
    of is_last None is None = rw (sym is) refl
    of is_last None is (Some k) = rw (sym is) refl
    of is_last (Some a) is ends = rw (sym is) refl

tail_runs : (h : ℕ) (came : Came) (e : Effect) (ends : Option ℕ) → told_in run_in (step_line came e ∷ option_map_or (λ (k : ℕ). done h k ∷ []) ends []) ≡ []
tail_runs h is_made e None = refl
tail_runs h is_made e (Some k) = refl
tail_runs h is_found e None = refl
tail_runs h is_found e (Some k) = refl
tail_runs h is_last e None = refl
tail_runs h is_last e (Some k) = refl

tail_effects : (h : ℕ) (came : Came) (e : Effect) (ends : Option ℕ) → effects_of (step_line came e ∷ option_map_or (λ (k : ℕ). done h k ∷ []) ends []) ≡ e ∷ []
tail_effects h is_made e None = refl
tail_effects h is_made e (Some k) = refl
tail_effects h is_found e None = refl
tail_effects h is_found e (Some k) = refl
tail_effects h is_last e None = refl
tail_effects h is_last e (Some k) = refl

abbrev pub touched_lines : ℕ → List Run → List Line
touched_lines h rs = map (λ (r : Run). touched h r.at r.bytes) rs

runs_access : (h : ℕ) (rs : List Run) (rest : List Line) → told_in access_in (touched_lines h rs ++ rest) ≡ told_in access_in rest
runs_access h [] rest = refl
runs_access h (r ∷ rs) rest = runs_access h rs rest

runs_runs : (h : ℕ) (rs : List Run) (rest : List Line) → told_in run_in rest ≡ [] → told_in run_in (touched_lines h rs ++ rest) ≡ rs
runs_runs h [] rest e = e
runs_runs h (r ∷ rs) rest e = ap (λ q. r ∷ q) (runs_runs h rs rest e)

pub runs_effects : (h : ℕ) (rs : List Run) (rest : List Line) → effects_of (touched_lines h rs ++ rest) ≡ effects_of rest
runs_effects h [] rest = refl
runs_effects h (r ∷ rs) rest = runs_effects h rs rest

fixed_told : {A : Type 0} (kind : Told → Option A) → kind nothing_told ≡ None → (h : ℕ) (fs : List Fixing) (rest : List Line) → told_in kind (fixing_lines h fs ++ rest) ≡ told_in kind rest
fixed_told kind none h [] rest = refl
fixed_told kind none h (f ∷ fs) rest = rw none (fixed_told kind none h fs rest)

pub fixed_effects : (h : ℕ) (fs : List Fixing) (rest : List Line) → effects_of (fixing_lines h fs ++ rest) ≡ effects_of rest
fixed_effects h [] rest = refl
fixed_effects h (f ∷ fs) rest = fixed_effects h fs rest

pub step_access : (work : Work) (h : ℕ) (x : Stepping) → access_told (event_of work h (steps x)) ≡ x.effect.access
step_access work h x = ap first (fixed_told access_in refl h x.registers (touched_lines h x.bytes ++ step_tail h x) ∙ runs_access h x.bytes (step_tail h x)) ∙ tail_access h x.came x.effect x.ends

pub step_runs : (work : Work) (h : ℕ) (x : Stepping) → runs_told (event_of work h (steps x)) ≡ x.bytes
step_runs work h x = fixed_told run_in refl h x.registers (touched_lines h x.bytes ++ step_tail h x) ∙ runs_runs h x.bytes (step_tail h x) (tail_runs h x.came x.effect x.ends)

pub step_effects : (work : Work) (h : ℕ) (x : Stepping) → effects_of (event_of work h (steps x)).lines ≡ x.effect ∷ []
step_effects work h x = fixed_effects h x.registers (touched_lines h x.bytes ++ step_tail h x) ∙ runs_effects h x.bytes (step_tail h x) ∙ tail_effects h x.came x.effect x.ends

-- ---- what it fixes

abbrev pub AllHave : Machine → List Line → Type 0
AllHave m lines = AllByRecursion (HasFixed m) lines

pub fixed_have : (m : Machine) (h : ℕ) (fs : List Fixing) (rest : List Line) → AllHave m (fixing_lines h fs ++ rest) → EachFixed (λ r v. (m.harts h).x r ≡ Some v) fs × AllHave m rest
fixed_have m h [] rest all = (tt, all)
fixed_have m h (f ∷ fs) rest all = let more = fixed_have m h fs rest all.1 in ((all.0, more.0), more.1)

runs_have : (m : Machine) (h : ℕ) (rs : List Run) (rest : List Line) → AllHave m (touched_lines h rs ++ rest) → RunsStand m.seen.byte rs × AllHave m rest
runs_have m h [] rest all = (tt, all)
runs_have m h (r ∷ rs) rest all = let more = runs_have m h rs rest all.1 in ((all.0, more.0), more.1)

abbrev pub WordHeld : Came → Machine → Effect → Type 0
WordHeld is_made m e = WordStands m.seen e.pa e.word
WordHeld is_last m e = WordStands m.seen e.pa e.word
WordHeld is_found m e = Unit {0}

pub record StepHas (m : Machine) (h : ℕ) (x : Stepping) : Type 0 where
  pub registers : EachFixed (λ r v. (m.harts h).x r ≡ Some v) x.registers
  pub bytes : RunsStand m.seen.byte x.bytes
  pub word : WordHeld x.came m x.effect

pub step_has : (work : Work) (m : Machine) (h : ℕ) (x : Stepping) → AllHave m (event_of work h (steps x)).lines → StepHas m h x
step_has work m h x all =
    let a = fixed_have m h x.registers (touched_lines h x.bytes ++ step_tail h x) all in
    let b = runs_have m h x.bytes (step_tail h x) a.1 in
    record { registers = a.0; bytes = b.0; word = of x.came b.1 }
  where
    of : (came : Came) → AllHave m (step_line came x.effect ∷ option_map_or (λ (k : ℕ). done h k ∷ []) x.ends []) → WordHeld came m x.effect
    of is_made all = all.0
    of is_last all = all.0
    of is_found all = all.0

-- ---- the other events

effects_append : (ls rest : List Line) → effects_of ls ≡ [] → effects_of rest ≡ [] → effects_of (ls ++ rest) ≡ []
effects_append ls rest none nothing = filter_map-append effect_of ls rest ∙ ap (λ l. l ++ effects_of rest) none ∙ nothing

begin_effects : (work : Work) (h : ℕ) (b : Begun) → effects_of (begin_lines work h b) ≡ []
begin_effects work h b = effects_append (option_map_or (pick_lines work h) b.pick []) _ (of b.pick) (at (weighing_of work b.request))
  where
    of : (p : Option Picking) → effects_of (option_map_or (pick_lines work h) p []) ≡ []
    of None = refl
    of (Some p) = by p.leaf
      where
        by : (leaf : Option Name) → effects_of (option_map_or (λ (leaf : Name). picked h (tree_name work p.tree) leaf p.word ∷ []) leaf []) ≡ []
        by None = refl
        by (Some leaf) = refl

    at : (w : Option Weighing) → effects_of (option_map_or (weighing_lines h) w []) ≡ []
    at None = refl
    at (Some w) = refl

all_behind : (m : Machine) (ls rest : List Line) → AllHave m (ls ++ rest) → AllHave m rest
all_behind m [] rest all = all
all_behind m (l ∷ ls) rest all = all_behind m ls rest all.1

pub refuses_effects : (work : Work) (h : ℕ) (b : Begun) (cause : Cause) → effects_of (event_of work h (refuses b cause)).lines ≡ []
refuses_effects work h b cause = effects_append (begin_lines work h b) (refused h b.k cause 0 ∷ []) (begin_effects work h b) refl

pub answers_effects : (work : Work) (h : ℕ) (b : Begun) (fixing : Option Fixing) → effects_of (event_of work h (answers b fixing)).lines ≡ []
answers_effects work h b fixing =
    effects_append (begin_lines work h b) (fixing_lines h (option_to_list fixing) ++ (done h b.k ∷ [])) (begin_effects work h b) (fixed_effects h (option_to_list fixing) (done h b.k ∷ []))

pub begins_effects : (work : Work) (h : ℕ) (b : Begun) (fixing : Option Fixing) (told : List Line) → effects_of told ≡ [] → effects_of (event_of work h (begins b fixing told)).lines ≡ []
begins_effects work h b fixing told e =
    effects_append (begin_lines work h b) (fixing_lines h (option_to_list fixing) ++ told) (begin_effects work h b) (fixed_effects h (option_to_list fixing) told ∙ e)

-- What a line tells of one kind is nothing, or the line itself, which has no effect.
abbrev TellsItself : (Told → Option Line) → Line → Type 0
TellsItself kind l = (kind (told_by l) ≡ None) ⊎ ((kind (told_by l) ≡ Some l) × (effects_of (l ∷ []) ≡ []))

-- so it tells of frames, and of entries
tells_itself : (l : Line) → TellsItself frame_in l × TellsItself entry_in l
tells_itself (request hart k kind) = (inl refl, inl refl)
tells_itself (picked hart tree leaf word) = (inl refl, inl refl)
tells_itself (weighed hart tree path weight) = (inl refl, inl refl)
tells_itself (fixed hart register value) = (inl refl, inl refl)
tells_itself (given hart object page frame) = (inr (refl, refl), inl refl)
tells_itself (settled hart space entry) = (inl refl, inr (refl, refl))
tells_itself (touched hart at bytes) = (inl refl, inl refl)
tells_itself (made e) = (inl refl, inl refl)
tells_itself (found e) = (inl refl, inl refl)
tells_itself (ending e) = (inl refl, inl refl)
tells_itself (done hart k) = (inl refl, inl refl)
tells_itself (refused hart k cause preamble) = (inl refl, inl refl)

silent_in : (kind : Told → Option Line) → ((l : Line) → TellsItself kind l) → (ls : List Line) → effects_of (told_in kind ls) ≡ []
silent_in kind each [] = refl
silent_in kind each (l ∷ ls) = of (each l) (silent_in kind each ls)
  where
    of : TellsItself kind l → effects_of (told_in kind ls) ≡ [] → effects_of (told_in kind (l ∷ ls)) ≡ []
    of (inl none) rest = rw none rest
    of (inr itself) rest = rw itself.0 (effects_append (l ∷ []) (told_in kind ls) itself.1 rest)

have_in : (m : Machine) (kind : Told → Option Line) → ((l : Line) → TellsItself kind l) → (ls : List Line) → AllHave m ls → AllHave m (told_in kind ls)
have_in m kind each [] all = tt
have_in m kind each (l ∷ ls) all = of (each l) (have_in m kind each ls all.1)
  where
    of : TellsItself kind l → AllHave m (told_in kind ls) → AllHave m (told_in kind (l ∷ ls))
    of (inl none) rest = rw none rest
    of (inr itself) rest = rw itself.0 (all.0, rest)

pub told_silent : (e : Event) → effects_of (heard_of e).told ≡ []
told_silent e =
    effects_append (frame_lines e) (entry_lines e) (silent_in frame_in (λ l. (tells_itself l).0) e.lines) (silent_in entry_in (λ l. (tells_itself l).1) e.lines)

-- the entries that an event tells stand
pub entries_told : (m : Machine) (e : Event) → AllHave m e.lines → AllHave m (entry_lines e)
entries_told m e all = have_in m entry_in (λ l. (tells_itself l).1) e.lines all

abbrev pub FixingHeld : Machine → ℕ → Option Fixing → Type 0
FixingHeld m h None = Unit {0}
FixingHeld m h (Some f) = (m.harts h).x f.register ≡ Some f.value

fixing_held : (m : Machine) (h : ℕ) (f : Option Fixing) (rest : List Line) → AllHave m (fixing_lines h (option_to_list f) ++ rest) → FixingHeld m h f
fixing_held m h None rest all = tt
fixing_held m h (Some f) rest all = all.0

pub answers_has : (work : Work) (m : Machine) (h : ℕ) (b : Begun) (fixing : Option Fixing) → AllHave m (event_of work h (answers b fixing)).lines → FixingHeld m h fixing
answers_has work m h b fixing all = fixing_held m h fixing (done h b.k ∷ []) (all_behind m (begin_lines work h b) (fixing_lines h (option_to_list fixing) ++ (done h b.k ∷ [])) all)

pub begins_has : (work : Work) (m : Machine) (h : ℕ) (b : Begun) (fixing : Option Fixing) (told : List Line) → AllHave m (event_of work h (begins b fixing told)).lines → FixingHeld m h fixing
begins_has work m h b fixing told all = fixing_held m h fixing told (all_behind m (begin_lines work h b) (fixing_lines h (option_to_list fixing) ++ told) all)
