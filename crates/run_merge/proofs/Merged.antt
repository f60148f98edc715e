-- The logs of all harts, merged by place, are one run of all harts, and their lines are a trace with each hart's blocks.
use Rattle.std.proofs.Common.{ℕ, ◌+◌, ◌^◌, ◌<◌, ◌≤◌, ◌≡◌, Bool, true, false, cond, eqb, eqb-true, eq-eqb, ◌&&◌, List, [], ◌∷◌, ◌++◌, length, filter, Option, Some, None, refl, sym, ap, subst, ◌∙◌, arith}
use Rattle.std.specs.Prelude.{slice_get}
use Rattle.std.specs.List.{AllByRecursion}
use Rattle.std.specs.Option.{option_or}
use Rattle.std.proofs.lemmas.List.Elements.{filter-append}
use Rattle.std.proofs.lemmas.Option.{slice_get-get_or}
use Rattle.choice_tree.specs.Forest.{Forest}
use Rattle.region_plan.specs.Plan.{Work, hart_count}
use Rattle.region_plan.specs.Rules.{KeepsRules}
use Rattle.table_space.specs.Tables.{opening_space}
use Rattle.trace_text.specs.Lines.{Line, done, ending, fixed, fixed_by, found, given, hart_of, lines_of, made, picked, refused, request, settled, starting, touched, weighed}
use Rattle.trace_text.specs.Traces.{IsLine, IsTrace, KeepsRanges}
use Rattle.world_face.specs.Choices.{choices_after, choices_legal}
use Rattle.world_face.specs.Events.{Event, Part, a_shard, a_space, holds, is_of_hart, no_parts, the_choices, the_pages}
use Rattle.world_face.specs.PagesBook.{pages_after, pages_legal}
use Rattle.world_face.specs.Runs.{StandsFor}
use Rattle.world_face.specs.Shards.{opening_shard, shard_after, shard_legal}
use Rattle.world_face.specs.Spaces.{space_after, space_legal}
use Rattle.hart_task.specs.Blocks.{AreBlocks}
use Rattle.hart_task.specs.Log.{LogSeen, events_of}
use Rattle.hart_task.specs.Logs.{AreLogsOf, numbered, of_hart}
use Rattle.hart_task.specs.OneRun.{IsFinishedRun, OneRun, all_lines}
use Rattle.hart_task.specs.Task.{script}
use Rattle.hart_task.proofs.Blocked.{blocked}
use Rattle.hart_task.proofs.Owned.{IsOwn, told_of_run}
use Rattle.run_merge.specs.Answers.{Answers}

-- ---- a hart's log

pub log_at : (work : Work) (seed : ℕ) (logs : List LogSeen) (events : List Event) → AreLogsOf work seed logs events → (h : ℕ) → h < hart_count work
    → (log : LogSeen) × (slice_get logs h ≡ Some log)
log_at work seed logs events are h small =
    let within : h < length logs = omega (arith, are.count, small) in
    (_, slice_get-get_or logs h (record { events = []; words = []; initial = λ r. None; present = λ r. None }) within)

numbered_of : (h place : ℕ) (events : List Event) → events_of (of_hart h (numbered place events)) ≡ filter (is_of_hart h) events
numbered_of h place [] = refl
numbered_of h place (e ∷ es) = of (is_of_hart h e) (numbered_of h (place + 1) es)
  where
    of : (t : Bool) → events_of (of_hart h (numbered (place + 1) es)) ≡ filter (is_of_hart h) es
        → events_of (cond t (record { place = place; event = e } ∷ of_hart h (numbered (place + 1) es)) (of_hart h (numbered (place + 1) es))) ≡ cond t (e ∷ filter (is_of_hart h) es) (filter (is_of_hart h) es)
    of true more = ap (λ l. e ∷ l) more
    of false more = more

-- its events are the hart's among all
pub log_events : (work : Work) (seed : ℕ) (logs : List LogSeen) (events : List Event) → AreLogsOf work seed logs events → (h : ℕ) (log : LogSeen) → slice_get logs h ≡ Some log
    → events_of log.events ≡ filter (is_of_hart h) events
log_events work seed logs events are h log is = ap events_of (are.by_place h log is) ∙ numbered_of h 0 events

pub hart_run : (work : Work) (seed : ℕ) (logs : List LogSeen) (events : List Event) → AreLogsOf work seed logs events → (h : ℕ) → h < hart_count work
    → IsFinishedRun work seed h (filter (is_of_hart h) events)
hart_run work seed logs events are h small =
    let log = log_at work seed logs events are h small in
    subst (IsFinishedRun work seed h) (log_events work seed logs events are h log.0 log.1) (are.logs_are h log.0 log.1).run

-- ---- no event holds a part

holds_none : (part : Part) (e : Event) → e.parts ≡ no_parts → holds part e ≡ false
holds_none (a_space n) e none = ap (λ q. holds (a_space n) (record e { parts = q })) none
holds_none the_pages e none = ap (λ q. holds the_pages (record e { parts = q })) none
holds_none the_choices e none = ap (λ q. holds the_choices (record e { parts = q })) none
holds_none (a_shard n) e none = ap (λ q. holds (a_shard n) (record e { parts = q })) none

none_hold : (part : Part) (events : List Event) → AllByRecursion (λ (e : Event). e.parts ≡ no_parts) events → filter (holds part) events ≡ []
none_hold part [] none = refl
none_hold part (e ∷ es) none = ap (λ t. cond t (e ∷ filter (holds part) es) (filter (holds part) es)) (holds_none part e none.0) ∙ none_hold part es none.1

stands_still : {S : Type 0} (legal : S → Event → Type 0) (after : S → Event → S) (opening : S) (part : Part) (events : List Event) → AllByRecursion (λ (e : Event). e.parts ≡ no_parts) events
    → StandsFor legal after opening (filter (holds part) events)
stands_still legal after opening part events none = subst (StandsFor legal after opening) (sym (none_hold part events none)) (record { contents = opening; run = refl })

-- The events of all harts are one run, whatever the trees.
pub one_run : (work : Work) (seed : ℕ) (logs : List LogSeen) (events : List Event) → AreLogsOf work seed logs events → (forest : Forest) → OneRun work forest seed events
one_run work seed logs events are forest = record {
  members = are.members;
  harts = hart_run work seed logs events are;
  parts = record {
    spaces = λ n small. stands_still (space_legal work) (space_after work) (opening_space work n) (a_space n) events are.parts;
    pages = stands_still (pages_legal work) pages_after [] the_pages events are.parts;
    choices = stands_still (choices_legal work) choices_after forest the_choices events are.parts;
    shards = λ n small. stands_still (shard_legal work) shard_after opening_shard (a_shard n) events are.parts;
  };
}

-- ---- each event's lines are its hart's

-- what holds of the events of each hart
spread : (n : ℕ) (P : ℕ → Event → Type 0) (events : List Event) → AllByRecursion (λ (e : Event). e.hart < n) events
    → ((h : ℕ) → h < n → AllByRecursion (P h) (filter (is_of_hart h) events)) → AllByRecursion (λ (e : Event). P e.hart e) events
spread n P [] members each = tt
spread n P (e ∷ es) members each = (
  head (is_of_hart e.hart e) (eq-eqb e.hart e.hart refl) (each e.hart members.0),
  spread n P es members.1 (λ h small. tail h (is_of_hart h e) (each h small)),
)
  where
    head : (t : Bool) → t ≡ true → AllByRecursion (P e.hart) (cond t (e ∷ filter (is_of_hart e.hart) es) (filter (is_of_hart e.hart) es)) → P e.hart e
    head true is all = all.0
    head false is all = absurd cc

    tail : (h : ℕ) (t : Bool) → AllByRecursion (P h) (cond t (e ∷ filter (is_of_hart h) es) (filter (is_of_hart h) es)) → AllByRecursion (P h) (filter (is_of_hart h) es)
    tail h true all = all.1
    tail h false all = all

kept_parts : (h : ℕ) (events : List Event) → AllByRecursion (λ (e : Event). e.parts ≡ no_parts) events → AllByRecursion (λ (e : Event). e.parts ≡ no_parts) (filter (is_of_hart h) events)
kept_parts h [] none = tt
kept_parts h (e ∷ es) none = of (is_of_hart h e) (kept_parts h es none.1)
  where
    of : (t : Bool) → AllByRecursion (λ (e : Event). e.parts ≡ no_parts) (filter (is_of_hart h) es)
        → AllByRecursion (λ (e : Event). e.parts ≡ no_parts) (cond t (e ∷ filter (is_of_hart h) es) (filter (is_of_hart h) es))
    of true more = (none.0, more)
    of false more = more

-- what the lines of a hart's own events give its registers
abbrev own_starting : List Event → ℕ → ℕ → Option ℕ
own_starting events h = starting (all_lines (filter (is_of_hart h) events)) h

events_own : (work : Work) (seed : ℕ) (logs : List LogSeen) (events : List Event) → AreLogsOf work seed logs events
    → AllByRecursion (λ (e : Event). AllByRecursion (IsOwn e.hart (own_starting events e.hart)) e.lines) events
events_own work seed logs events are =
    spread (hart_count work) (λ h e. AllByRecursion (IsOwn h (own_starting events h)) e.lines) events are.members
    (λ h small. let r = hart_run work seed logs events are h small in
    (told_of_run work seed h (filter (is_of_hart h) events) r.end (kept_parts h events are.parts) r.run).own)

own_hart : (h : ℕ) (first : ℕ → Option ℕ) (l : Line) → IsOwn h first l → hart_of l ≡ h
own_hart h first (request hart k kind) own = own
own_hart h first (picked hart tree leaf word) own = own
own_hart h first (weighed hart tree path weight) own = own
own_hart h first (fixed hart register value) own = own.0
own_hart h first (given hart object page frame) own = absurd own
own_hart h first (settled hart space e) own = absurd own
own_hart h first (touched hart at bytes) own = absurd own
own_hart h first (made e) own = own
own_hart h first (found e) own = own
own_hart h first (ending e) own = own
own_hart h first (done hart k) own = own
own_hart h first (refused hart k cause preamble) own = own

-- the lines of one hart, among those of this or of another
lines_kept : (h k : ℕ) (first : ℕ → Option ℕ) (ls : List Line) → AllByRecursion (IsOwn k first) ls → lines_of h ls ≡ cond (eqb k h) ls []
lines_kept h k first [] own = of (eqb k h)
  where
    of : (t : Bool) → [] ≡ cond {A = List Line} t [] []
    of true = refl
    of false = refl
lines_kept h k first (l ∷ ls) own =
    ap (λ n. cond (eqb n h) (l ∷ lines_of h ls) (lines_of h ls)) (own_hart k first l own.0) ∙ of (eqb k h) (lines_kept h k first ls own.1)
  where
    of : (t : Bool) → lines_of h ls ≡ cond t ls [] → cond t (l ∷ lines_of h ls) (lines_of h ls) ≡ cond t (l ∷ ls) []
    of true more = ap (λ q. l ∷ q) more
    of false more = more

lines_by_hart : (h : ℕ) (first : ℕ → ℕ → Option ℕ) (events : List Event) → AllByRecursion (λ (e : Event). AllByRecursion (IsOwn e.hart (first e.hart)) e.lines) events
    → lines_of h (all_lines events) ≡ all_lines (filter (is_of_hart h) events)
lines_by_hart h first [] own = refl
lines_by_hart h first (e ∷ es) own =
    filter-append (λ l. eqb (hart_of l) h) e.lines (all_lines es)
    ∙ ap (λ q. q ++ lines_of h (all_lines es)) (lines_kept h e.hart (first e.hart) e.lines own.0)
    ∙ of (eqb e.hart h) (lines_by_hart h first es own.1)
  where
    of : (t : Bool) → lines_of h (all_lines es) ≡ all_lines (filter (is_of_hart h) es)
        → cond t e.lines [] ++ lines_of h (all_lines es) ≡ all_lines (cond t (e ∷ filter (is_of_hart h) es) (filter (is_of_hart h) es))
    of true more = ap (λ q. e.lines ++ q) more
    of false more = more

-- The lines of one hart are those of its events.
pub hart_lines : (work : Work) (seed : ℕ) (logs : List LogSeen) (events : List Event) → AreLogsOf work seed logs events → (h : ℕ) → h < hart_count work
    → lines_of h (all_lines events) ≡ all_lines (filter (is_of_hart h) events)
hart_lines work seed logs events are h small = lines_by_hart h (own_starting events) events (events_own work seed logs events are)

-- ---- blocks

-- Each request of a hart has its block.
pub blocks_are : (work : Work) (seed : ℕ) (logs : List LogSeen) (events : List Event) → KeepsRules work → AreLogsOf work seed logs events → (h : ℕ) → h < hart_count work
    → AreBlocks work h 0 (script work h) [] (lines_of h (all_lines events))
blocks_are work seed logs events keeps are h small =
    subst (AreBlocks work h 0 (script work h) []) (sym (hart_lines work seed logs events are h small))
    (blocked work seed h (filter (is_of_hart h) events) keeps small (hart_run work seed logs events are h small))

-- ---- ranges

lines_in : (n h : ℕ) (first : ℕ → Option ℕ) (ls rest : List Line) → h < n → AllByRecursion (IsOwn h first) ls → AllByRecursion KeepsRanges ls → AllByRecursion (IsLine n) rest → AllByRecursion (IsLine n) (ls ++ rest)
lines_in n h first [] rest small own ranges more = more
lines_in n h first (l ∷ ls) rest small own ranges more = (
  record { hart = subst (λ k. k < n) (sym (own_hart h first l own.0)) small; ranges = ranges.0 },
  lines_in n h first ls rest small own.1 ranges.1 more,
)

all_in : (n : ℕ) (first : ℕ → ℕ → Option ℕ) (events : List Event) → AllByRecursion (λ (e : Event). e.hart < n) events
    → AllByRecursion (λ (e : Event). AllByRecursion (IsOwn e.hart (first e.hart)) e.lines) events → AllByRecursion (λ (e : Event). AllByRecursion KeepsRanges e.lines) events
    → AllByRecursion (IsLine n) (all_lines events)
all_in n first [] members own ranges = tt
all_in n first (e ∷ es) members own ranges =
    lines_in n e.hart (first e.hart) e.lines (all_lines es) members.0 own.0 ranges.0 (all_in n first es members.1 own.1 ranges.1)

-- The lines are those of a trace.
pub trace_is : (work : Work) (seed : ℕ) (logs : List LogSeen) (events : List Event) → KeepsRules work → AreLogsOf work seed logs events → IsTrace (hart_count work) (all_lines events)
trace_is work seed logs events keeps are = record {
  some = keeps.some;
  most = keeps.most;
  are_lines = all_in (hart_count work) (own_starting events) events are.members (events_own work seed logs events are) are.ranges;
}

-- The lines answer the job.
pub answers : (work : Work) (seed : ℕ) (logs : List LogSeen) (events : List Event) → KeepsRules work → AreLogsOf work seed logs events → (forest : Forest)
    → Answers work forest seed events (all_lines events)
answers work seed logs events keeps are forest = record {
  are = refl;
  run = one_run work seed logs events are forest;
  blocks = blocks_are work seed logs events keeps are;
  ranges = trace_is work seed logs events keeps are;
}

-- ---- what registers start with

other_line : (h r : ℕ) (l : Line) → eqb (hart_of l) h ≡ false → fixed_by h r l ≡ None
other_line h r (request hart k kind) other = refl
other_line h r (picked hart tree leaf word) other = refl
other_line h r (weighed hart tree path weight) other = refl
other_line h r (fixed hart register value) other = ap (λ t. cond (t && eqb register r) (Some value) None) other
other_line h r (given hart object page frame) other = refl
other_line h r (settled hart space e) other = refl
other_line h r (touched hart at bytes) other = refl
other_line h r (made e) other = refl
other_line h r (found e) other = refl
other_line h r (ending e) other = refl
other_line h r (done hart k) other = refl
other_line h r (refused hart k cause preamble) other = refl

-- the lines of other harts give a hart's registers nothing
own_lines_start : (h r : ℕ) (ls : List Line) → starting (lines_of h ls) h r ≡ starting ls h r
own_lines_start h r [] = refl
own_lines_start h r (l ∷ ls) = of (eqb (hart_of l) h) refl (own_lines_start h r ls)
  where
    of : (t : Bool) → t ≡ eqb (hart_of l) h → starting (lines_of h ls) h r ≡ starting ls h r → starting (cond t (l ∷ lines_of h ls) (lines_of h ls)) h r ≡ option_or (fixed_by h r l) (starting ls h r)
    of true e more = ap (option_or (fixed_by h r l)) more
    of false e more = more ∙ sym (ap (λ m. option_or m (starting ls h r)) (other_line h r l (sym e)))

-- So a hart's registers start with what the lines of its own events give them.
pub starting_is : (work : Work) (seed : ℕ) (logs : List LogSeen) (events : List Event) → AreLogsOf work seed logs events → (h r : ℕ) → h < hart_count work
    → starting (all_lines (filter (is_of_hart h) events)) h r ≡ starting (all_lines events) h r
starting_is work seed logs events are h r small =
    ap (λ ls. starting ls h r) (sym (hart_lines work seed logs events are h small)) ∙ own_lines_start h r (all_lines events)

-- each line of its hart, which gives a register what the register starts with
pub all_own : (work : Work) (seed : ℕ) (logs : List LogSeen) (events : List Event) → AreLogsOf work seed logs events
    → AllByRecursion (λ (l : Line). (hart_of l < hart_count work) × IsOwn (hart_of l) (starting (all_lines events) (hart_of l)) l) (all_lines events)
all_own work seed logs events are = over events are.members (events_own work seed logs events are)
  where
    same : (h : ℕ) → h < hart_count work → own_starting events h ≡ starting (all_lines events) h
    same h small = λ i. λ r. starting_is work seed logs events are h r small i

    within : (h : ℕ) (ls rest : List Line) → h < hart_count work → AllByRecursion (IsOwn h (own_starting events h)) ls
        → AllByRecursion (λ (l : Line). (hart_of l < hart_count work) × IsOwn (hart_of l) (starting (all_lines events) (hart_of l)) l) rest
        → AllByRecursion (λ (l : Line). (hart_of l < hart_count work) × IsOwn (hart_of l) (starting (all_lines events) (hart_of l)) l) (ls ++ rest)
    within h [] rest small own more = more
    within h (l ∷ ls) rest small own more = (
      subst (λ k. (k < hart_count work) × IsOwn k (starting (all_lines events) k) l) (sym (own_hart h (own_starting events h) l own.0)) (small, subst (λ f. IsOwn h f l) (same h small) own.0),
      within h ls rest small own.1 more,
    )

    over : (es : List Event) → AllByRecursion (λ (e : Event). e.hart < hart_count work) es → AllByRecursion (λ (e : Event). AllByRecursion (IsOwn e.hart (own_starting events e.hart)) e.lines) es
        → AllByRecursion (λ (l : Line). (hart_of l < hart_count work) × IsOwn (hart_of l) (starting (all_lines events) (hart_of l)) l) (all_lines es)
    over [] members own = tt
    over (e ∷ es) members own = within e.hart e.lines (all_lines es) members.0 own.0 (over es members.1 own.1)

-- the ranges of a line's register and value
abbrev InRange : ℕ → ℕ → Type 0
InRange r v = (1 ≤ r) × (r < 32) × (v < 2 ^ 64)

line_small : (h r v : ℕ) (l : Line) → KeepsRanges l → fixed_by h r l ≡ Some v → InRange r v
line_small h r v (request hart k kind) range is = absurd cc
line_small h r v (picked hart tree leaf word) range is = absurd cc
line_small h r v (weighed hart tree path weight) range is = absurd cc
line_small h r v (fixed hart register value) range is = of (eqb hart h) (eqb register r) refl is
  where
    of : (t u : Bool) → u ≡ eqb register r → cond (t && u) (Some value) None ≡ Some v → InRange r v
    of true true e is =
        let at : register ≡ r = eqb-true register r (sym e) in
        let gives : value ≡ v = cc in
        subst (λ q. InRange q v) at (subst (λ w. InRange register w) gives range)
    of true false e is = absurd cc
    of false u e is = absurd cc
line_small h r v (given hart object page frame) range is = absurd cc
line_small h r v (settled hart space e) range is = absurd cc
line_small h r v (touched hart at bytes) range is = absurd cc
line_small h r v (made e) range is = absurd cc
line_small h r v (found e) range is = absurd cc
line_small h r v (ending e) range is = absurd cc
line_small h r v (done hart k) range is = absurd cc
line_small h r v (refused hart k cause preamble) range is = absurd cc

lines_small : (n h r v : ℕ) (ls : List Line) → AllByRecursion (IsLine n) ls → starting ls h r ≡ Some v → InRange r v
lines_small n h r v [] lines is = absurd cc
lines_small n h r v (l ∷ ls) lines is = of (fixed_by h r l) refl (lines_small n h r v ls lines.1) is
  where
    of : (m : Option ℕ) → m ≡ fixed_by h r l → (starting ls h r ≡ Some v → InRange r v) → option_or m (starting ls h r) ≡ Some v → InRange r v
    of None e more is = more is
    of (Some w) e more is = line_small h r v l lines.0.ranges (sym e ∙ is)

-- What the lines give registers is in its ranges.
pub starting_small : (work : Work) (seed : ℕ) (logs : List LogSeen) (events : List Event) → KeepsRules work → AreLogsOf work seed logs events → (h r v : ℕ)
    → starting (all_lines events) h r ≡ Some v → (1 ≤ r) × (r < 32) × (v < 2 ^ 64)
starting_small work seed logs events keeps are h r v is =
    lines_small (hart_count work) h r v (all_lines events) (trace_is work seed logs events keeps are).are_lines is
