-- A task behind the begin of a request stands where the hart's machine does.
use Rattle.std.proofs.Common.{ℕ, zero, suc, ◌+◌, ◌-◌, ◌*◌, ◌<◌, ◌≤◌, ◌≡◌, Bool, true, false, cond, List, [], ◌∷◌, ◌++◌, length, Some, None, refl, sym, ap, subst, ◌∙◌, arith}
use Rattle.std.specs.Prelude.{drop, slice_get, option_map}
use Rattle.std.proofs.lemmas.List.{length-append}
use Rattle.rv_fields.proofs.Lists.{each_at}
use Rattle.region_plan.specs.declared.request.Item as item
use Rattle.region_plan.specs.declared.request.Item.TheVariants.{One}
use Rattle.region_plan.specs.declared.request.Request as code
use Rattle.region_plan.specs.Plan.{Work, hart_count}
use Rattle.region_plan.specs.Request.{Request, no_arms}
use Rattle.region_plan.specs.Rules.{IsMakeable, IsMakeableRequest, KeepsRules}
use Rattle.region_plan.specs.Script.{ScriptItem, script_of}
use Rattle.region_plan.specs.Views.{items_seen, request_seen}
use Rattle.trace_text.specs.Lines.{Line, refused, request, starting}
use Rattle.world_face.specs.Events.{Placed}
use Rattle.choice_tree.specs.Draws.{Draws}
use Rattle.trace_fields.specs.declared.request.Cause.TheVariants.{NoRegister}
use Rattle.hart_task.specs.Acts.{request_kind}
use Rattle.hart_task.specs.Asking.{Worded, asked_word, is_served, item_seen, worded}
use Rattle.hart_task.specs.Schedule.{ends_hart}
use Rattle.hart_task.specs.Heard.{Heard, heard_of}
use Rattle.hart_task.specs.OneRun.{RunsTo, all_lines}
use Rattle.hart_task.specs.Log.{events_of}
use Rattle.hart_task.specs.Task.{IsInPhase, TaskSeen, Stands, begun_draws, begun_lines, begun_phase, begun_task, finished, phase_seen, script, state_of, task_event, with_event}
use Rattle.hart_task.specs.declared.task.Phase.TheVariants as tasks
use Rattle.hart_task.specs.Turn.{turned}
use Rattle.hart_task.proofs.Begins.{begun_act, begun_event, begun_state, few_worded, fits, plain_hart, state_by, word_drawn, worded_on}
use Rattle.hart_task.proofs.Begun.{drop_at, starting_kept}
use Rattle.hart_task.proofs.Led.{IsBetween, begins_so}
use Rattle.hart_task.proofs.Turning.{lines_more, run_more}
use Rattle.hart_task.proofs.Turns.{between_there}

-- ---- the script of a template

pub script_at : (items : List item.Item) (i : ℕ) → slice_get (script_of (items_seen items)) i ≡ option_map item_seen (slice_get items i)
script_at [] i = refl
script_at (One r ∷ items) zero = refl
script_at (One r ∷ items) (suc i) = script_at items i

-- a request of the script can be made, and is one of no more than a thousand
pub script_makeable : (work : Work) (h i : ℕ) (x : ScriptItem) → KeepsRules work → h < hart_count work → slice_get (script work h) i ≡ Some x → IsMakeable x
script_makeable work h i x keeps small at = each_at IsMakeable (script work h) i x (plain_hart work h keeps small).requests at

pub script_short : (work : Work) (h : ℕ) → KeepsRules work → h < hart_count work → length (script work h) ≤ 1000
script_short work h keeps small = (plain_hart work h keeps small).room

-- ---- the event

-- the phase to which it leads, with a word for the request
begun_in : (t : TaskSeen) (r : code.Request) (served : Bool) → served ≡ is_served (asked_word (request_seen r)) → IsMakeableRequest (request_seen r)
    → IsInPhase (cond served (tasks.Making (record { k = t.begun; request = r; word = (worded (asked_word (request_seen r)) t.draws).word })) tasks.Between) t.hart.pc
begun_in t r true is makeable = (makeable, word_drawn (asked_word (request_seen r)) t.draws (fits (request_seen r) makeable) (sym is))
begun_in t r false is makeable = tt

-- the stream goes on in its place
drawn_behind : (r : code.Request) (draws : Draws) (served : Bool) → (cond served (worded (asked_word (request_seen r)) draws).left draws ≡ record draws { drawn = (cond served (worded (asked_word (request_seen r)) draws).left draws).drawn })
    × ((cond served (worded (asked_word (request_seen r)) draws).left draws).drawn ≤ draws.drawn + 4)
drawn_behind r draws true = (worded_on (asked_word (request_seen r)) draws, few_worded (asked_word (request_seen r)) draws)
drawn_behind r draws false = (refl, omega arith)

-- its lines give no register a starting value
none_fixed : (h k q : ℕ) (r : Request) (served : Bool) → starting (cond served (request h k (request_kind r) ∷ []) (request h k (request_kind r) ∷ refused h k NoRegister 0 ∷ [])) h q ≡ None
none_fixed h k q r true = refl
none_fixed h k q r false = refl

-- what the code makes of it where a choice of registers serves, and where none does
abbrev pub made_so : TaskSeen → code.Request → ℕ → Worded → TaskSeen
made_so t r place w = record t {
  phase = tasks.Making (record { k = t.begun; request = r; word = w.word });
  begun = t.begun + 1;
  draws = w.left;
  log = with_event t.log place (task_event t.hart.number (request t.hart.number t.begun (request_kind (request_seen r)) ∷ []));
}

abbrev pub refused_so : TaskSeen → code.Request → ℕ → TaskSeen
refused_so t r place = record t {
  phase = tasks.Between;
  begun = t.begun + 1;
  log = with_event t.log place (task_event t.hart.number (request t.hart.number t.begun (request_kind (request_seen r)) ∷ refused t.hart.number t.begun NoRegister 0 ∷ []));
}

abbrev so_by : Bool → TaskSeen → code.Request → ℕ → TaskSeen
so_by served t r place = record t {
  phase = cond served (tasks.Making (record { k = t.begun; request = r; word = (worded (asked_word (request_seen r)) t.draws).word })) tasks.Between;
  begun = t.begun + 1;
  draws = cond served (worded (asked_word (request_seen r)) t.draws).left t.draws;
  log = with_event t.log place (task_event t.hart.number
      (cond served (request t.hart.number t.begun (request_kind (request_seen r)) ∷ []) (request t.hart.number t.begun (request_kind (request_seen r)) ∷ refused t.hart.number t.begun NoRegister 0 ∷ [])));
}

pub begun_made : (t : TaskSeen) (r : code.Request) (place : ℕ) (w : Worded) → true ≡ is_served (asked_word (request_seen r)) → w ≡ worded (asked_word (request_seen r)) t.draws → made_so t r place w ≡ begun_task t r place
begun_made t r place w served is = ap (made_so t r place) is ∙ ap (λ b. so_by b t r place) served

pub begun_refused : (t : TaskSeen) (r : code.Request) (place : ℕ) → false ≡ is_served (asked_word (request_seen r)) → refused_so t r place ≡ begun_task t r place
begun_refused t r place served = ap (λ b. so_by b t r place) served

-- it ends no hart
pub begun_ends : (h k : ℕ) (r : code.Request) (draws : Draws) → ends_hart (task_event h (begun_lines h k (request_seen r))) ≡ finished (begun_phase r k draws)
begun_ends h k r draws = of (is_served (asked_word (request_seen r)))
  where
    of : (b : Bool) → ends_hart (task_event h (cond b (request h k (request_kind (request_seen r)) ∷ []) (request h k (request_kind (request_seen r)) ∷ refused h k NoRegister 0 ∷ [])))
        ≡ finished (cond b (tasks.Making (record { k = k; request = r; word = (worded (asked_word (request_seen r)) draws).word })) tasks.Between)
    of true = refl
    of false = refl

pub begun_seed : (r : code.Request) (draws : Draws) → (begun_draws (request_seen r) draws).seed ≡ draws.seed
begun_seed r draws = ap (λ (d : Draws). d.seed) (drawn_behind r draws (is_served (asked_word (request_seen r)))).0

pub stands_begun : (work : Work) (t : TaskSeen) (place : ℕ) (r : code.Request) → KeepsRules work → Stands work t → t.phase ≡ tasks.Between
    → slice_get (script work t.hart.number) t.begun ≡ Some (record { request = request_seen r; arms = no_arms }) → Stands work (begun_task t r place)
stands_begun work t place r keeps st is at = record {
  run = subst (λ seed. RunsTo work seed h (events_of new.log.events) (state_of work new)) (sym seed)
      (run_more work t place (task_event h lines) (begun_act t.begun (request_seen r)) (state_of work new) st.run (turns (heard_of (task_event h lines))) (begun_event work h t.begun (request_seen r) makeable));
  member = st.member;
  held = st.held;
  fresh = st.fresh;
  initial = λ q. st.initial q ∙ sym (starting_kept (all_lines (events_of t.log.events)) lines h q (none_fixed h t.begun q (request_seen r) served)) ∙ ap (λ ls. starting ls h q) (sym same_lines);
  stream = ap (λ (d : Draws). d.stream) behind.0 ∙ st.stream;
  few = let few = behind.1 in omega (arith, more, st.few, few);
  events = omega (arith, more, st.events);
  phase = begun_in t r served refl makeable;
}
  where
    h : ℕ
    h = t.hart.number

    x : ScriptItem
    x = record { request = request_seen r; arms = no_arms }

    makeable : IsMakeableRequest (request_seen r)
    makeable = (script_makeable work h t.begun x keeps st.member at).0

    served : Bool
    served = is_served (asked_word (request_seen r))

    behind : (begun_draws (request_seen r) t.draws ≡ record t.draws { drawn = (begun_draws (request_seen r) t.draws).drawn }) × ((begun_draws (request_seen r) t.draws).drawn ≤ t.draws.drawn + 4)
    behind = drawn_behind r t.draws served

    lines : List Line
    lines = begun_lines h t.begun (request_seen r)

    new : TaskSeen
    new = begun_task t r place

    seed : new.draws.seed ≡ t.draws.seed
    seed = ap (λ (d : Draws). d.seed) behind.0

    event : Placed
    event = record { place = place; event = task_event h lines }

    more : length (t.log.events ++ event ∷ []) ≡ length t.log.events + 1
    more = length-append t.log.events (event ∷ [])

    same_lines : all_lines (events_of (t.log.events ++ event ∷ [])) ≡ all_lines (events_of t.log.events) ++ lines
    same_lines = lines_more t.log.events event

    steps : length t.log.events - t.begun ≡ length (t.log.events ++ event ∷ []) - (t.begun + 1)
    steps = omega (arith, more, st.events)

    here : (made : ℕ) × IsBetween h t.begun made (x ∷ drop (t.begun + 1) (script work h)) (state_of work t)
    here = between_there work t (x ∷ drop (t.begun + 1) (script work h)) keeps st is (drop_at (script work h) t.begun x at).0

    -- the machine's state is that of the task
    same_state : (b : Bool) → record (state_by b (state_of work t) (request_seen r) (drop (t.begun + 1) (script work h))) { steps = length (t.log.events ++ event ∷ []) - (t.begun + 1) }
        ≡ record (state_of work t) {
          picks = record { seed = t.draws.seed; stream = 2 * h; drawn = 0 };
          draws = cond b (worded (asked_word (request_seen r)) t.draws).left t.draws;
          left = drop (t.begun + 1) (script work h);
          count = t.begun + 1;
          steps = length (t.log.events ++ event ∷ []) - (t.begun + 1);
          phase = phase_seen (cond b (tasks.Making (record { k = t.begun; request = r; word = (worded (asked_word (request_seen r)) t.draws).word })) tasks.Between);
        }
    same_state true = refl
    same_state false = refl

    turns : (heard : Heard) → turned work (state_of work t) heard ≡ Some (record { act = begun_act t.begun (request_seen r); state = state_of work new })
    turns heard = begins_so work h t.begun here.0 x (drop (t.begun + 1) (script work h)) (state_of work t) heard (record { keeps = keeps; member = st.member }) here.1
        ∙ (λ i. Some (record {
          act = begun_act t.begun (request_seen r);
          state = record (begun_state (state_of work t) x (drop (t.begun + 1) (script work h))) { steps = steps i };
        }))
        ∙ ap (λ s. Some (record { act = begun_act t.begun (request_seen r); state = s })) (same_state served)
        ∙ (λ i. Some (record {
          act = begun_act t.begun (request_seen r);
          state = record (state_of work new) { picks = record { seed = sym seed i; stream = 2 * h; drawn = 0 } };
        }))
