-- A task behind a step stands where the hart's machine does.
use Rattle.std.proofs.Common.{ℕ, zero, suc, ◌+◌, ◌-◌, ◌*◌, ◌<◌, ◌≤◌, ◌≡◌, Bool, true, false, cond, eqb, eqb-true, eq-eqb, List, [], ◌∷◌, ◌++◌, length, Option, Some, None, refl, sym, ap, subst, ◌∙◌, arith, append_assoc, append-nil}
use Rattle.std.specs.Prelude.{drop, is_none, option_map, slice_get}
use Rattle.std.specs.Option.{option_map_or}
use Rattle.std.proofs.lemmas.Bool.{ne_eqb}
use Rattle.std.proofs.lemmas.List.{map-append, length-append}
use Rattle.std.proofs.lemmas.Grind.{flat_map-append}
use Rattle.std.proofs.lemmas.Option.{same_Some}
use Rattle.rv_fields.specs.declared.access.Accessed.{Accessed}
use Rattle.rv_fields.specs.Decode.{Decoded, decoded, rs1_read}
use Rattle.rv_fields.specs.Effect.{Effect}
use Rattle.rv_fields.specs.Hart.{Hart, Registers, updated}
use Rattle.rv_fields.specs.Laws.{Extends, StepLeaves, TellsMore, from_registers, with_registers}
use Rattle.rv_fields.specs.Memory.{Seen}
use Rattle.rv_fields.specs.Step.{Stepped, step, with_write}
use Rattle.rv_fields.proofs.MoreTold.{more_told}
use Rattle.choice_tree.specs.Draws.{next_word, skipped}
use Rattle.region_plan.specs.Plan.{Work, hart_count, plan_of}
use Rattle.trace_text.specs.Lines.{Line, starting, done}
use Rattle.boot_words.specs.Layout.{shard_of}
use Rattle.world_face.specs.Events.{Event, Placed, no_parts, nothing_asked}
use Rattle.world_face.specs.Runs.{Runs}
use Rattle.hart_task.specs.Acts.{Act, Came, Fixing, event_of, fixing_lines, step_line}
use Rattle.hart_task.specs.Bus.{word_seen}
use Rattle.hart_task.specs.Heard.{Heard, heard_of}
use Rattle.hart_task.specs.Log.{events_of}
use Rattle.hart_task.specs.OneRun.{RunsTo, all_lines}
use Rattle.hart_task.specs.State.{HartState, entries_at_first, start}
use Rattle.hart_task.specs.Stepping.{fixed_in, late_registers}
use Rattle.hart_task.specs.Task.{IsInPhase, Stands, Steps, TaskSeen, Whose, came_by, done_by, fixed_task, late_of, late_one, of_end, of_handler, of_request, phase_by, phase_seen, script, state_of, stepped_task, task_event, told_lines, words_by}
use Rattle.hart_task.specs.Turn.{Turned, acted, acts, turned}
use Rattle.hart_task.proofs.Begun.{starting_fixed, starting_kept}
use Rattle.hart_task.proofs.Bare.{bare_quiet}
use Rattle.hart_task.proofs.Fixing.{at_most_one, both_fixed, both_told, late_is}
use Rattle.hart_task.proofs.Going.{none_before}
use Rattle.hart_task.proofs.Led.{leaves_so, stepped_so, stepped_turn, stepping, steps_so}
use Rattle.hart_task.proofs.Makes.{IsQuietWord, fixed_hart, tells_fixed}
use Rattle.hart_task.proofs.Plainly.{IsReady, more_written}

-- ---- one event more

pub runs_more : (work : Work) (old mid : HartState) (es : List Event) (e : Event) → Runs (acts work) (acted work) old es mid → acts work mid e
    → Runs (acts work) (acted work) old (es ++ e ∷ []) (acted work mid e)
runs_more work old mid [] e run ok = (subst (λ s. acts work s e) run ok, ap (λ s. acted work s e) run)
runs_more work old mid (k ∷ es) e run ok = (run.0, runs_more work (acted work old k) mid es e run.1 ok)

-- the event is the one that a turn of the machine makes
pub acts_turned : (work : Work) (s : HartState) (e : Event) (t : Turned) → turned work s (heard_of e) ≡ Some t → e ≡ event_of work s.hart.number t.act
    → acts work s e × (acted work s e ≡ t.state)
acts_turned work s e t is event = rw is (event, refl)

-- ---- the words made

pub words_after : (ws : List ℕ) (word i : ℕ) → updated (λ i. slice_get ws i) (length ws) (Some word) i ≡ slice_get (ws ++ word ∷ []) i
words_after [] word zero = refl
words_after [] word (suc i) = let no : eqb (suc i) 0 ≡ false = ne_eqb (suc i) 0 (λ same. omega (arith, same)) in rw no refl
words_after (w ∷ ws) word zero = let no : eqb 0 (suc (length ws)) ≡ false = ne_eqb 0 (suc (length ws)) (λ same. omega (arith, same)) in rw no refl
words_after (w ∷ ws) word (suc i) = ap (λ t. cond t (Some word) (slice_get ws i)) (next_test i (length ws)) ∙ words_after ws word i
  where
    next_test : (m n : ℕ) → eqb (suc m) (suc n) ≡ eqb m n
    next_test m n = of (eqb m n) refl
      where
        of : (t : Bool) → t ≡ eqb m n → eqb (suc m) (suc n) ≡ t
        of true e = let same : m ≡ n = eqb-true m n (sym e) in eq-eqb (suc m) (suc n) (ap suc same)
        of false e = ne_eqb (suc m) (suc n) (λ same. let both : eqb m n ≡ true = eq-eqb m n (omega (arith, same)) in absurd cc)

-- ---- the step of the code is that of the machine

itself : (seen : Seen) → Extends seen seen
itself seen = record { byte = λ a b e. e; link = λ h g b e. e }

-- What the code's hart does, all of whose registers have values, the machine's hart does, which knows fewer.
pub record IsSame (t : TaskSeen) (m : Option Decoded) (r : Stepped) (effect : Effect) (next : Hart) : Type 0 where
  pub effect_is : effect ≡ r.effect
  pub hart_is : with_registers (with_write (fixed_in t.log.present (late_of t m)) effect.rd) next ≡ r.hart
  pub held : TellsMore (with_write (fixed_in t.log.present (late_of t m)) effect.rd) next.x
  pub number : next.number ≡ t.hart.number

same_step : (work : Work) (t : TaskSeen) (word : ℕ) (m : Option Decoded) (effect : Effect) (next : Hart) → IsReady (state_of work t).hart → IsQuietWord word m → TellsMore t.log.present t.hart.x
    → step (word_seen t.hart.pc word) (fixed_task t (late_of t m)).hart ≡ Some (record { effect = effect; hart = next }) → IsSame t m (stepped_so (state_of work t) word m) effect next
same_step work t word m effect next ready quiet held does = record {
  effect_is = effect_is;
  hart_is = ap (with_registers (with_write part effect.rd)) next_is ∙ (λ i. with_registers (registers i) r.hart);
  held = subst (TellsMore (with_write part effect.rd)) (sym (ap (λ (q : Hart). q.x) next_is ∙ ap (λ (e : Effect). with_write full e.rd) (sym effect_is))) (more_written part full effect.rd more);
  number = ap (λ (q : Hart). q.number) next_is ∙ leaves.number;
}
  where
    s : HartState
    s = state_of work t

    r : Stepped
    r = stepped_so s word m

    part : Registers
    part = fixed_in t.log.present (late_of t m)

    full : Registers
    full = fixed_in t.hart.x (late_of t m)

    more : TellsMore part full
    more = tells_fixed t.log.present t.hart.x (late_of t m) held

    leaves : StepLeaves (fixed_hart s m) r
    leaves = leaves_so s word m ready quiet

    same : record { effect = effect; hart = next } ≡ from_registers full r
    same = same_Some _ _ (sym does ∙ more_told (word_seen t.hart.pc word) (word_seen t.hart.pc word) (itself (word_seen t.hart.pc word)) full (fixed_hart s m) more r (steps_so s word m ready quiet))

    effect_is : effect ≡ r.effect
    effect_is = ap (λ (q : Stepped). q.effect) same

    next_is : next ≡ with_registers (with_write full r.effect.rd) r.hart
    next_is = ap (λ (q : Stepped). q.hart) same

    registers : with_write part effect.rd ≡ r.hart.x
    registers = ap (λ (e : Effect). with_write part e.rd) effect_is ∙ sym leaves.registers

-- ---- the state is that of the task

pub length_more : (ws : List ℕ) (w : ℕ) → length (ws ++ w ∷ []) ≡ length ws + 1
length_more ws w = length-append ws (w ∷ [])

-- behind a step, with these words of the window
state_behind : (work : Work) (t : TaskSeen) (whose : Whose) (word place : ℕ) (m : Option Decoded) (effect : Effect) (next : Hart) (words : ℕ → Option ℕ) → t.begun ≤ length t.log.events
    → ((i : ℕ) → words i ≡ slice_get (words_by whose t.log.words word) i) → IsSame t m (stepped_so (state_of work t) word m) effect next
    → (stepped_turn (state_of work t) whose word m words).state ≡ state_of work (stepped_task t whose word (late_of t m) place effect next)
state_behind work t whose word place m effect next words begun are same = λ i. record {
  hart = sym same.hart_is i;
  picks = record { seed = t.draws.seed; stream = 2 * sym same.number i; drawn = 0 };
  draws = drawn i;
  words = λ k. are k i;
  entries = entries_at_first work (plan_of work (sym same.number i)).space;
  left = drop t.begun (script work (sym same.number i));
  count = t.begun;
  steps = steps i;
  loop = None;
  phase = phase_seen (phase_by whose (sym same.effect_is i).trap);
}
  where
    drawn : skipped t.draws (length (late_of t m) + 0) ≡ skipped t.draws (length (late_of t m))
    drawn = let n : length (late_of t m) + 0 ≡ length (late_of t m) = omega arith in ap (skipped t.draws) n

    event : Placed
    event = record { place = place; event = task_event t.hart.number (told_lines t.hart.number whose (late_of t m) effect) }

    steps : length t.log.events - t.begun + 1 ≡ length (t.log.events ++ event ∷ []) - t.begun
    steps = let more = length-append t.log.events (event ∷ []) in omega (arith, more, begun)

-- ---- the task stands there

pub events_more : (placed : List Placed) (p : Placed) → events_of (placed ++ p ∷ []) ≡ events_of placed ++ p.event ∷ []
events_more placed p = map-append (λ (q : Placed). q.event) placed (p ∷ [])

pub lines_more : (placed : List Placed) (p : Placed) → all_lines (events_of (placed ++ p ∷ [])) ≡ all_lines (events_of placed) ++ p.event.lines
lines_more placed p = ap all_lines (events_more placed p) ∙ flat_map-append (λ (e : Event). e.lines) (events_of placed) (p.event ∷ []) ∙ ap (λ ls. all_lines (events_of placed) ++ ls) (append-nil p.event.lines)

-- a run with one turn more
pub run_more : (work : Work) (t : TaskSeen) (place : ℕ) (e : Event) (a : Act) (s : HartState) → RunsTo work t.draws.seed t.hart.number (events_of t.log.events) (state_of work t)
    → turned work (state_of work t) (heard_of e) ≡ Some (record { act = a; state = s }) → e ≡ event_of work t.hart.number a
    → RunsTo work t.draws.seed t.hart.number (events_of (t.log.events ++ record { place = place; event = e } ∷ [])) s
run_more work t place e a s run turns is =
    let ok = acts_turned work (state_of work t) e (record { act = a; state = s }) turns is in
    subst (λ es. RunsTo work t.draws.seed t.hart.number es s) (sym (events_more t.log.events (record { place = place; event = e })))
    (subst (λ q. RunsTo work t.draws.seed t.hart.number (events_of t.log.events ++ e ∷ []) q) ok.1
    (runs_more work (start work t.draws.seed t.hart.number) (state_of work t) (events_of t.log.events) e run ok.0))

-- what was fixed late has its line, and nothing else
record Fixed (t new : TaskSeen) (ls : List Line) (h : ℕ) : Type 0 where
  fresh : (r : ℕ) → new.log.present r ≡ None → new.log.initial r ≡ None
  initial : (r : ℕ) → new.log.initial r ≡ starting ls h r

fixed_one : (t : TaskSeen) (ls : List Line) (a h : ℕ) → Fixed t t ls h → Fixed t (fixed_task t (late_one t a)) (ls ++ fixing_lines h (late_one t a)) h
fixed_one t ls a h f = of (t.log.present a) refl
  where
    of : (m : Option ℕ) → m ≡ t.log.present a
        → Fixed t (fixed_task t (late_registers t.draws (cond (is_none m) (a ∷ []) []))) (ls ++ fixing_lines h (late_registers t.draws (cond (is_none m) (a ∷ []) []))) h
    of (Some v) at = record { fresh = f.fresh; initial = λ r. f.initial r ∙ ap (λ l. starting l h r) (sym (append-nil ls)) }
    of None at = record {
      fresh = λ r. gone (eqb r a) r;
      initial = λ r. starting_fixed ls t.log.initial h a (next_word t.draws) r (f.initial r) (f.fresh a (sym at));
    }
      where
        gone : (b : Bool) (r : ℕ) → cond b (Some (next_word t.draws)) (t.log.present r) ≡ None → cond b (Some (next_word t.draws)) (t.log.initial r) ≡ None
        gone true r e = absurd cc
        gone false r e = f.fresh r e

fixed_all : (t : TaskSeen) (ls : List Line) (m : Option Decoded) (h : ℕ) → Fixed t t ls h → Fixed t (fixed_task t (late_of t m)) (ls ++ fixing_lines h (late_of t m)) h
fixed_all t ls None h f = record { fresh = f.fresh; initial = λ r. f.initial r ∙ ap (λ l. starting l h r) (sym (append-nil ls)) }
fixed_all t ls (Some d) h f =
    let a : ℕ = rs1_read d in
    let t1 : TaskSeen = fixed_task t (late_one t a) in
    let once : Fixed t t1 (ls ++ fixing_lines h (late_one t a)) h = fixed_one t ls a h f in
    let twice = fixed_one t1 (ls ++ fixing_lines h (late_one t a)) d.ops.rs2 h (record { fresh = once.fresh; initial = once.initial }) in
    subst (λ q. Fixed t q (ls ++ fixing_lines h (late_of t (Some d))) h) (both_fixed t d)
    (subst (λ l. Fixed t (fixed_task t1 (late_one t1 d.ops.rs2)) l h) (append_assoc ls (fixing_lines h (late_one t a)) (fixing_lines h (late_one t1 d.ops.rs2)) ∙ ap (λ l. ls ++ l) (both_told t d h))
    (record { fresh = twice.fresh; initial = twice.initial }))

-- no more than two registers are fixed
few_fixed : (t : TaskSeen) (m : Option Decoded) → length (late_of t m) ≤ 2
few_fixed t None = omega arith
few_fixed t (Some d) =
    let t1 : TaskSeen = fixed_task t (late_one t (rs1_read d)) in
    let both = ap length (late_is t d) ∙ length-append (late_one t (rs1_read d)) (late_one t1 d.ops.rs2) in
    omega (arith, both, at_most_one t.log.present t.draws (rs1_read d), at_most_one t1.log.present t1.draws d.ops.rs2)

-- ---- behind a step

-- an event whose step accesses nothing
quiet_event : (work : Work) (h : ℕ) (came : Came) (ends : Option ℕ) (late : List Fixing) (effect : Effect) → effect.access ≡ None
    → task_event h (fixing_lines h late ++ (step_line came effect ∷ option_map_or (λ (k : ℕ). done h k ∷ []) ends [])) ≡ event_of work h (stepping came ends late effect)
quiet_event work h came ends late effect none = λ i. record {
  hart = h;
  parts = record no_parts { shard = option_map shard_of (option_map (λ (a : Accessed). a.pa) (sym none i)) };
  asked = nothing_asked;
  lines = fixing_lines h late ++ (step_line came effect ∷ option_map_or (λ (k : ℕ). done h k ∷ []) ends []);
}

-- what comes behind the starting values fixes none
none_fixed_by : (h : ℕ) (whose : Whose) (effect : Effect) (ends : Option ℕ) (r : ℕ) → starting (step_line (came_by whose) effect ∷ option_map_or (λ (k : ℕ). done h k ∷ []) ends []) h r ≡ None
none_fixed_by h (of_request k) effect None r = refl
none_fixed_by h (of_request k) effect (Some j) r = refl
none_fixed_by h (of_handler k next) effect None r = refl
none_fixed_by h (of_handler k next) effect (Some j) r = refl
none_fixed_by h of_end effect None r = refl
none_fixed_by h of_end effect (Some j) r = refl

pub stands_behind : (work : Work) (t new : TaskSeen) (whose : Whose) (word place : ℕ) (words : ℕ → Option ℕ) (before now : List Placed → Type 0) → Stands work t → IsReady (state_of work t).hart
    → IsQuietWord word (decoded word) → Steps whose word t new place before now → ((i : ℕ) → words i ≡ slice_get (words_by whose t.log.words word) i)
    → ((heard : Heard) → turned work (state_of work t) heard ≡ Some (stepped_turn (state_of work t) whose word (decoded word) words))
    → IsInPhase (phase_by whose (stepped_so (state_of work t) word (decoded word)).effect.trap) (stepped_so (state_of work t) word (decoded word)).hart.pc → Stands work new
stands_behind work t new whose word place words before now st ready quiet did are turns phase =
    subst (Stands work) (sym did.task) (record {
      run = subst (λ n. RunsTo work t.draws.seed n (events_of placed) (state_of work behind)) (sym same.number) run;
      member = subst (λ n. n < hart_count work) (sym same.number) st.member;
      held = same.held;
      fresh = λ r none. fixed.fresh r (none_before (fixed_in t.log.present late) effect.rd r none);
      initial = λ r. initial r ∙ ap (λ n. starting (all_lines (events_of placed)) n r) (sym same.number);
      stream = st.stream ∙ ap (λ n. 2 * n + 1) (sym same.number);
      few = omega (arith, st.few, count, few_fixed t m);
      events = omega (arith, count, st.events);
      phase = subst (λ (q : Effect). IsInPhase (phase_by whose q.trap) new.hart.pc) (sym same.effect_is) (subst (IsInPhase (phase_by whose r.effect.trap)) (sym (ap (λ (q : Hart). q.pc) same.hart_is)) phase);
    })
  where
    h : ℕ
    h = t.hart.number

    m : Option Decoded
    m = decoded word

    late : List Fixing
    late = late_of t m

    effect : Effect
    effect = did.effect

    r : Stepped
    r = stepped_so (state_of work t) word m

    same : IsSame t m r effect new.hart
    same = same_step work t word m effect new.hart ready quiet st.held did.does

    behind : TaskSeen
    behind = stepped_task t whose word late place effect new.hart

    e : Event
    e = task_event h (told_lines h whose late effect)

    rest : List Line
    rest = step_line (came_by whose) effect ∷ option_map_or (λ (k : ℕ). done h k ∷ []) (done_by whose effect.trap) []

    placed : List Placed
    placed = t.log.events ++ record { place = place; event = e } ∷ []

    count : length placed ≡ length t.log.events + 1
    count = length-append t.log.events (record { place = place; event = e } ∷ [])

    none : effect.access ≡ None
    none = ap (λ (q : Effect). q.access) same.effect_is ∙ ap (λ (q : Effect). q.access) (bare_quiet (fixed_hart (state_of work t) m) word m _ _ quiet.bare)

    turned_so : turned work (state_of work t) (heard_of e) ≡ Some (record { act = stepping (came_by whose) (done_by whose effect.trap) late effect; state = state_of work behind })
    turned_so = turns (heard_of e) ∙ (λ i. Some (record {
      act = stepping (came_by whose) (done_by whose (sym same.effect_is i).trap) late (sym same.effect_is i);
      state = state_behind work t whose word place m effect new.hart words st.events are same i;
    }))

    run : RunsTo work t.draws.seed h (events_of placed) (state_of work behind)
    run = run_more work t place e _ (state_of work behind) st.run turned_so (quiet_event work h (came_by whose) (done_by whose effect.trap) late effect none)

    fixed : Fixed t (fixed_task t late) (all_lines (events_of t.log.events) ++ fixing_lines h late) h
    fixed = fixed_all t (all_lines (events_of t.log.events)) m h (record { fresh = st.fresh; initial = st.initial })

    same_lines : all_lines (events_of placed) ≡ (all_lines (events_of t.log.events) ++ fixing_lines h late) ++ rest
    same_lines = lines_more t.log.events (record { place = place; event = e }) ∙ sym (append_assoc (all_lines (events_of t.log.events)) (fixing_lines h late) rest)

    initial : (r : ℕ) → fixed_in t.log.initial late r ≡ starting (all_lines (events_of placed)) h r
    initial r = fixed.initial r ∙ sym (starting_kept (all_lines (events_of t.log.events) ++ fixing_lines h late) rest h r (none_fixed_by h whose effect (done_by whose effect.trap) r))
        ∙ ap (λ ls. starting ls h r) (sym same_lines)
