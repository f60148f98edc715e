-- What a turn of the code makes of its task.
use Rattle.std.proofs.Common.{ℕ, zero, suc, ◌+◌, ◌-◌, ◌*◌, ◌^◌, ◌<◌, ◌≤◌, ◌≡◌, Bool, true, false, cond, eqb, eqb-true, List, [], ◌∷◌, ◌++◌, length, Option, Some, None, refl, sym, ap, subst, ◌∙◌, arith}
use Rattle.std.specs.List.{list_any}
use Rattle.std.specs.Option.{option_map_or}
use Rattle.std.specs.Prelude.{IsTrue, drop, is_some, slice_get}
use Rattle.std.proofs.lemmas.Bool.Decides.{nat_tests}
use Rattle.rv_fields.specs.declared.trap.Trap.{Trap}
use Rattle.rv_fields.specs.Decode.{Decoded, decoded}
use Rattle.rv_fields.specs.Effect.{Effect}
use Rattle.rv_fields.specs.Hart.{updated}
use Rattle.rv_fields.specs.Memory.{in_ram}
use Rattle.rv_fields.specs.Step.{Stepped}
use Rattle.rv_fields.proofs.Opened.{step_leaves}
use Rattle.choice_tree.specs.Draws.{Draws}
use Rattle.region_plan.specs.declared.request.Request as code
use Rattle.region_plan.specs.Plan.{Work}
use Rattle.region_plan.specs.Request.{Request}
use Rattle.region_plan.specs.Rules.{IsMakeableRequest, KeepsRules}
use Rattle.region_plan.specs.Script.{ScriptItem}
use Rattle.region_plan.specs.Views.{request_seen}
use Rattle.boot_words.specs.Layout.{m_handler_at}
use Rattle.trace_text.specs.Lines.{Line, done, found}
use Rattle.world_face.specs.Events.{Placed}
use Rattle.hart_task.specs.Acts.{Fixing, fixing_lines, step_line}
use Rattle.hart_task.specs.Asking.{IsWordFor, asked_word, is_served, worded}
use Rattle.hart_task.specs.Bus.{word_seen}
use Rattle.hart_task.specs.Heard.{Heard}
use Rattle.hart_task.specs.Log.{events_of}
use Rattle.hart_task.specs.Plain.{IsPlainFor}
use Rattle.hart_task.specs.Schedule.{is_ending}
use Rattle.hart_task.specs.State.{HartState, index_of}
use Rattle.hart_task.specs.Task.{IsInPhase, IsTurn, Stands, Steps, TaskSeen, Whose, begun_phase, came_by, done_by, events_left, finished, fixed_task, late_of, most_events, of_end, of_handler, of_request, phase_by, phase_left, phase_seen, script, state_of, task_event, told_lines}
use Rattle.hart_task.specs.declared.log.Turned.TheVariants as turned
use Rattle.hart_task.specs.declared.task.Handling.{Handling}
use Rattle.hart_task.specs.declared.task.Making.{Making}
use Rattle.hart_task.specs.declared.task.Phase.TheVariants as tasks
use Rattle.hart_task.specs.Turn as machine
use Rattle.hart_task.specs.Turn.{end_word}
use Rattle.hart_task.proofs.Bare.{end_decoded}
use Rattle.hart_task.proofs.Begins.{IsAsked, asked}
use Rattle.hart_task.proofs.Found.{handler_word}
use Rattle.hart_task.proofs.InHandler.{handler_ins, handler_quiet}
use Rattle.hart_task.proofs.Led.{HasMade, IsBehind, IsBetween, IsHandling, IsLed, IsMember, IsUnderWay, at_end_there, at_rest_there, end_quiet, ends_so, few_made, found_on, found_so, handled_there, is_between, is_handling, led, led_few, made_behind, made_so, makes_at, ready_in_trap, ready_in_window, stepped_so, stepped_turn, under_way, words_made_at}
use Rattle.hart_task.proofs.Makes.{IsQuietWord, index_is}
use Rattle.hart_task.proofs.Plainly.{IsReady, bare_plainly}
use Rattle.hart_task.proofs.Turning.{stands_behind, words_after}

-- ---- where a hart stands that isn't finished

member_of : (work : Work) (t : TaskSeen) → KeepsRules work → Stands work t → IsMember work t.hart.number
member_of work t keeps st = record { keeps = keeps; member = st.member }

led_there : (work : Work) (t : TaskSeen) → KeepsRules work → Stands work t → IsLed t.hart.number (state_of work t)
led_there work t keeps st = led work t.draws.seed t.hart.number (events_of t.log.events) (state_of work t) (member_of work t keeps st) st.run

-- it has done no more than this
pub few_there : (work : Work) (t : TaskSeen) → KeepsRules work → Stands work t → (t.begun ≤ 1000) × (length t.log.events ≤ most_events)
few_there work t keeps st =
    let few = led_few t.hart.number (state_of work t) (led_there work t keeps st) in (few.0, omega (arith, few.0, few.1))

-- the words of an event more can be drawn
pub few_drawn : (work : Work) (t : TaskSeen) → KeepsRules work → Stands work t → t.draws.drawn + 4 < 2 ^ 64 - 1
few_drawn work t keeps st = let few = few_there work t keeps st in omega (arith, st.few, few.1)

none_left : {A : Type 0} (xs : List A) (i : ℕ) → slice_get xs i ≡ None → drop i xs ≡ []
none_left [] zero e = refl
none_left [] (suc i) e = refl
none_left (x ∷ xs) zero e = absurd cc
none_left (x ∷ xs) (suc i) e = none_left xs i e

-- a list with so many members, and none behind them
words_end : (ws : List ℕ) (made : ℕ) → ((i : ℕ) → i < made → is_some (slice_get ws i) ≡ true) → ((i : ℕ) → made ≤ i → slice_get ws i ≡ None) → length ws ≡ made
words_end [] zero full free = refl
words_end [] (suc n) full free = absurd (let no : false ≡ true = full 0 (omega arith) in cc)
words_end (w ∷ ws) zero full free = absurd (let no : Some w ≡ None = free 0 (omega arith) in cc)
words_end (w ∷ ws) (suc n) full free = ap suc (words_end ws n (λ i low. full (suc i) (omega (arith, low))) (λ i late. free (suc i) (omega (arith, late))))

-- the log has as many words as were made
pub words_counted : (work : Work) (t : TaskSeen) (h made most : ℕ) → HasMade h made most (state_of work t) → length t.log.words ≡ made
words_counted work t h made most has = words_end t.log.words made has.full has.free

pub between_there : (work : Work) (t : TaskSeen) (items : List ScriptItem) → KeepsRules work → Stands work t → t.phase ≡ tasks.Between → drop t.begun (script work t.hart.number) ≡ items
    → (made : ℕ) × IsBetween t.hart.number t.begun made items (state_of work t)
between_there work t items keeps st is left = at_rest_there t.hart.number items (state_of work t) (led_there work t keeps st) (ap phase_seen is) left

-- a request that makes its word: it can be made, and the word is one for it
pub record IsMaking (work : Work) (t : TaskSeen) (m : Making) : Type 0 where
  pub makeable : IsMakeableRequest (request_seen m.request)
  pub is_for : IsWordFor (asked_word (request_seen m.request)) m.word
  pub made : ℕ
  pub items : List ScriptItem
  pub at : IsUnderWay t.hart.number m.k made (request_seen m.request) m.word items (state_of work t)

making_there : (work : Work) (t : TaskSeen) (m : Making) → KeepsRules work → Stands work t → t.phase ≡ tasks.Making m → IsMaking work t m
making_there work t m keeps st is =
    let in_it : IsMakeableRequest (request_seen m.request) × IsWordFor (asked_word (request_seen m.request)) m.word = subst (λ p. IsInPhase p t.hart.pc) is st.phase in
    let there = under_way t.hart.number m.k (request_seen m.request) m.word (state_of work t) (led_there work t keeps st) (ap phase_seen is) in_it.0 in_it.1 in
    record { makeable = in_it.0; is_for = in_it.1; made = there.0; items = there.1; at = there.2 }

-- one whose handler is stepped
pub record IsInHandling (work : Work) (t : TaskSeen) (g : Handling) : Type 0 where
  pub made : ℕ
  pub items : List ScriptItem
  pub at : IsHandling t.hart.number g.k made g.next items (state_of work t)

handling_there : (work : Work) (t : TaskSeen) (g : Handling) → KeepsRules work → Stands work t → t.phase ≡ tasks.Handling g → IsInHandling work t g
handling_there work t g keeps st is =
    let there = handled_there t.hart.number g.k (state_of work t) (led_there work t keeps st) (ap phase_seen is) in
    let at : t.hart.pc ≡ m_handler_at + 4 * g.next = subst (λ p. IsInPhase p t.hart.pc) is st.phase in
    let pc = there.3.trap.at.pc in
    let same : there.1 ≡ g.next = omega (arith, at, pc) in
    record { made = there.0; items = there.2; at = subst (λ n. IsHandling t.hart.number g.k there.0 n there.2 (state_of work t)) same there.3 }

-- ---- it is ready for a step

ready_between : (work : Work) (t : TaskSeen) → KeepsRules work → Stands work t → t.phase ≡ tasks.Between → IsReady (state_of work t).hart
ready_between work t keeps st is =
    let there = between_there work t _ keeps st is refl in
    ready_in_window work t.hart.number there.0 (state_of work t) (member_of work t keeps st) (few_made t.begun there.0 _ there.1.behind there.1.ahead.room) there.1.window

few_making : (work : Work) (t : TaskSeen) (m : Making) (there : IsMaking work t m) → there.made ≤ 1000
few_making work t m there = few_made (m.k + 1) there.made _ (let behind = there.at.behind in omega (arith, behind)) there.at.ahead.room

ready_making : (work : Work) (t : TaskSeen) (m : Making) → KeepsRules work → Stands work t → t.phase ≡ tasks.Making m → IsReady (state_of work t).hart
ready_making work t m keeps st is =
    let there = making_there work t m keeps st is in ready_in_window work t.hart.number there.made (state_of work t) (member_of work t keeps st) (few_making work t m there) there.at.window

ready_handling : (work : Work) (t : TaskSeen) (g : Handling) → KeepsRules work → Stands work t → t.phase ≡ tasks.Handling g → IsReady (state_of work t).hart
ready_handling work t g keeps st is =
    let there = handling_there work t g keeps st is in ready_in_trap t.hart.number there.made g.next (state_of work t) there.at.trap

-- What a step of the code asks for, with x0 among the registers that have a value.
pub record MayStep (t : TaskSeen) (word : ℕ) : Type 0 where
  pub plain : IsPlainFor t.hart word
  pub zero : t.hart.x 0 ≡ Some 0
  pub in_it : IsTrue (in_ram t.hart.pc 4)
  pub few : t.draws.drawn + 2 < 2 ^ 64 - 1

may_step : (work : Work) (t : TaskSeen) (word : ℕ) (m : Option Decoded) → KeepsRules work → Stands work t → IsReady (state_of work t).hart → t.log.present 0 ≡ Some 0 → IsQuietWord word m → MayStep t word
may_step work t word m keeps st ready is_zero quiet = record {
  plain = bare_plainly t.hart word m (record { mode = ready.mode; in_it = ready.in_it; aligned = ready.aligned; small = ready.small }) quiet.small quiet.row quiet.bare;
  zero = st.held 0 0 is_zero;
  in_it = ready.in_it;
  few = let few = few_drawn work t keeps st in omega (arith, few);
}

pub may_make : (work : Work) (t : TaskSeen) (m : Making) → KeepsRules work → Stands work t → t.phase ≡ tasks.Making m → MayStep t m.word
may_make work t m keeps st is =
    let there = making_there work t m keeps st is in
    let q = asked (request_seen m.request) m.word there.makeable there.is_for in
    may_step work t m.word _ keeps st (ready_making work t m keeps st is) there.at.window.so_far.zero q.quiet

pub may_handle : (work : Work) (t : TaskSeen) (g : Handling) → KeepsRules work → Stands work t → t.phase ≡ tasks.Handling g → (g.next < 6) × MayStep t (handler_word g.next)
may_handle work t g keeps st is =
    let there = handling_there work t g keeps st is in
    let early = there.at.trap.early in (early, may_step work t (handler_word g.next) _ keeps st (ready_handling work t g keeps st is) there.at.trap.so_far.zero (handler_quiet g.next early))

pub may_end : (work : Work) (t : TaskSeen) → KeepsRules work → Stands work t → t.phase ≡ tasks.Between → MayStep t end_word
may_end work t keeps st is =
    may_step work t end_word _ keeps st (ready_between work t keeps st is) (between_there work t _ keeps st is refl).1.window.so_far.zero end_quiet

-- ---- the task behind it

-- a word more of the window
words_more : (work : Work) (t : TaskSeen) (word made : ℕ) → index_of work (state_of work t) ≡ made → length t.log.words ≡ made
    → (i : ℕ) → words_made_at work (state_of work t) word i ≡ slice_get (t.log.words ++ word ∷ []) i
words_more work t word made index count i = ap (λ p. updated (λ j. slice_get t.log.words j) p (Some word) i) (index ∙ sym count) ∙ words_after t.log.words word i

-- the phase to which a step leads
in_behind : (h k made : ℕ) (items : List ScriptItem) (trap : Option Trap) (s : HartState) → IsBehind h k made items trap s → IsInPhase (phase_by (of_request k) trap) s.hart.pc
in_behind h k made items trap s (is_between none at) = subst (λ m. IsInPhase (phase_by (of_request k) m) s.hart.pc) (sym none) tt
in_behind h k made items trap s (is_handling t some at) = subst (λ m. IsInPhase (phase_by (of_request k) m) s.hart.pc) (sym some) at.trap.at.pc

pub stands_made : (work : Work) (t new : TaskSeen) (m : Making) (place : ℕ) (before now : List Placed → Type 0) → KeepsRules work → Stands work t → t.phase ≡ tasks.Making m
    → Steps (of_request m.k) m.word t new place before now → Stands work new
stands_made work t new m place before now keeps st is did =
    stands_behind work t new (of_request m.k) m.word place (words_made_at work s m.word) before now st (ready_making work t m keeps st is) q.quiet did
    (words_more work t m.word there.made (index_is work s there.made (makes_at work h there.made s member (few_making work t m there) there.at.window)) (words_counted work t h there.made _ there.at.window.so_far))
    (λ heard. made_so work h m.k there.made r m.word there.items s heard q member there.at)
    (in_behind h m.k there.made there.items _ _ (made_behind work h m.k there.made r m.word there.items s q member there.at))
  where
    h : ℕ
    h = t.hart.number

    r : Request
    r = request_seen m.request

    s : HartState
    s = state_of work t

    member : IsMember work h
    member = member_of work t keeps st

    there : IsMaking work t m
    there = making_there work t m keeps st is

    q : IsAsked r m.word
    q = asked r m.word there.makeable there.is_for

in_handled : (work : Work) (h k made i : ℕ) (items : List ScriptItem) (s : HartState) → IsMember work h → IsHandling h k made i items s
    → let r : Stepped = stepped_so s (handler_word i) (Some (handler_ins i)) in IsInPhase (phase_by (of_handler k i) r.effect.trap) r.hart.pc
in_handled work h k made i items s is at = of (eqb i 5) refl
  where
    r : Stepped
    r = stepped_so s (handler_word i) (Some (handler_ins i))

    of : (t : Bool) → t ≡ eqb i 5 → IsInPhase (cond t tasks.Between (tasks.Handling (record { k = k; next = i + 1 }))) r.hart.pc
    of true e = tt
    of false e = (found_on work h k made i items s is (let early = at.trap.early in grind (arith, nat_tests)) at).trap.at.pc

pub stands_handled : (work : Work) (t new : TaskSeen) (g : Handling) (place : ℕ) (before now : List Placed → Type 0) → KeepsRules work → Stands work t → t.phase ≡ tasks.Handling g
    → Steps (of_handler g.k g.next) (handler_word g.next) t new place before now → Stands work new
stands_handled work t new g place before now keeps st is did =
    stands_behind work t new (of_handler g.k g.next) word place s.words before now st (ready_handling work t g keeps st is) known.0 did (λ i. refl) known.1 known.2
  where
    h : ℕ
    h = t.hart.number

    s : HartState
    s = state_of work t

    word : ℕ
    word = handler_word g.next

    there : IsInHandling work t g
    there = handling_there work t g keeps st is

    quiet : IsQuietWord word (Some (handler_ins g.next))
    quiet = handler_quiet g.next there.at.trap.early

    -- of the word by its row
    Known : Option Decoded → Type 0
    Known m = let r : Stepped = stepped_so s word m in
        IsQuietWord word m × ((heard : Heard) → machine.turned work s heard ≡ Some (stepped_turn s (of_handler g.k g.next) word m s.words))
        × IsInPhase (phase_by (of_handler g.k g.next) r.effect.trap) r.hart.pc

    known : Known (decoded word)
    known = subst Known (sym quiet.row) (
      quiet,
      λ heard. found_so work h g.k there.made g.next there.items s heard (member_of work t keeps st) there.at,
      in_handled work h g.k there.made g.next there.items s (member_of work t keeps st) there.at,
    )

pub stands_ended : (work : Work) (t new : TaskSeen) (place : ℕ) (before now : List Placed → Type 0) → KeepsRules work → Stands work t → t.phase ≡ tasks.Between
    → slice_get (script work t.hart.number) t.begun ≡ None → Steps of_end end_word t new place before now → Stands work new
stands_ended work t new place before now keeps st is none did =
    stands_behind work t new of_end end_word place (words_made_at work s end_word) before now st (ready_between work t keeps st is) known.0 did
    (words_more work t end_word made (index_is work s made (makes_at work h made s member few at.window)) (words_counted work t h made _ at.window.so_far))
    known.1 tt
  where
    h : ℕ
    h = t.hart.number

    s : HartState
    s = state_of work t

    member : IsMember work h
    member = member_of work t keeps st

    there : (made : ℕ) × IsBetween h t.begun made [] s
    there = between_there work t [] keeps st is (none_left (script work h) t.begun none)

    made : ℕ
    made = there.0

    at : IsBetween h t.begun made [] s
    at = there.1

    few : made ≤ 1000
    few = few_made t.begun made _ at.behind at.ahead.room

    -- of the word by its row
    Known : Option Decoded → Type 0
    Known m = IsQuietWord end_word m × ((heard : Heard) → machine.turned work s heard ≡ Some (stepped_turn s of_end end_word m (words_made_at work s end_word)))

    known : Known (decoded end_word)
    known = subst Known (sym end_decoded) (end_quiet, λ heard. ends_so work h t.begun made s heard member at)

-- a finished task has no more words than this
pub few_words : (work : Work) (t : TaskSeen) → KeepsRules work → Stands work t → t.phase ≡ tasks.Finished → length t.log.words ≤ 1001
few_words work t keeps st is =
    let there = at_end_there t.hart.number (state_of work t) (led_there work t keeps st) (ap phase_seen is) in
    let count = words_counted work t t.hart.number (there.0 + 1) _ there.2 in omega (arith, count, there.1)

-- ---- what a step leaves of the task

pub number_after : (t new : TaskSeen) (whose : Whose) (word place : ℕ) (before now : List Placed → Type 0) → Steps whose word t new place before now → new.hart.number ≡ t.hart.number
number_after t new whose word place before now did =
    (step_leaves (word_seen t.hart.pc word) (fixed_task t (late_of t (decoded word))).hart (record { effect = did.effect; hart = new.hart }) did.does).number

-- as much of the script is left
pub left_after : (work : Work) (t new : TaskSeen) (whose : Whose) (word place : ℕ) (before now : List Placed → Type 0) → Steps whose word t new place before now
    → length (script work new.hart.number) - new.begun ≡ length (script work t.hart.number) - t.begun
left_after work t new whose word place before now did =
    ap (λ n. length (script work n) - new.begun) (number_after t new whose word place before now did) ∙ ap (λ (q : TaskSeen). length (script work t.hart.number) - q.begun) did.task

-- ---- a step is a turn

-- what is fixed late ends no hart
fixed_ends : (h : ℕ) (fs : List Fixing) (rest : List Line) → list_any is_ending (fixing_lines h fs ++ rest) ≡ list_any is_ending rest
fixed_ends h [] rest = refl
fixed_ends h (f ∷ fs) rest = fixed_ends h fs rest

ends_by : (h : ℕ) (whose : Whose) (e : Effect) (trap : Option Trap)
    → list_any is_ending (step_line (came_by whose) e ∷ option_map_or (λ (k : ℕ). done h k ∷ []) (done_by whose trap) []) ≡ finished (phase_by whose trap)
ends_by h (of_request k) e None = refl
ends_by h (of_request k) e (Some t) = refl
ends_by h (of_handler k next) e trap = of (eqb next 5)
  where
    of : (t : Bool) → list_any is_ending (found e ∷ option_map_or (λ (k : ℕ). done h k ∷ []) (cond t (Some k) None) []) ≡ finished (cond t tasks.Between (tasks.Handling (record { k = k; next = next + 1 })))
    of true = refl
    of false = refl
ends_by h of_end e trap = refl

phase_of : (t new : TaskSeen) (whose : Whose) (word place : ℕ) (before now : List Placed → Type 0) (did : Steps whose word t new place before now) → new.phase ≡ phase_by whose did.effect.trap
phase_of t new whose word place before now did = ap (λ (q : TaskSeen). q.phase) did.task

pub turn_of : (t new : TaskSeen) (whose : Whose) (word place : ℕ) (before now : List Placed → Type 0) → Steps whose word t new place before now → IsTurn (turned.Event place) t new before now
turn_of t new whose word place before now did = (
  task_event t.hart.number (told_lines t.hart.number whose (late_of t (decoded word)) did.effect),
  ap (λ (q : TaskSeen). q.log.events) did.task,
  refl,
  refl,
  fixed_ends t.hart.number (late_of t (decoded word)) _ ∙ ends_by t.hart.number whose did.effect did.effect.trap ∙ ap finished (sym (phase_of t new whose word place before now did)),
  did.commits,
  did.ranged,
)

-- ---- it is nearer to its end

made_left : (k : ℕ) (trap : Option Trap) → phase_left (phase_by (of_request k) trap) < 8
made_left k None = omega arith
made_left k (Some t) = omega arith

handled_left : (k next : ℕ) (trap : Option Trap) → next < 6 → phase_left (phase_by (of_handler k next) trap) < 7 - next
handled_left k next trap early = of (eqb next 5) refl
  where
    of : (t : Bool) → t ≡ eqb next 5 → phase_left (cond t tasks.Between (tasks.Handling (record { k = k; next = next + 1 }))) < 7 - next
    of true e = let last : next ≡ 5 = eqb-true next 5 (sym e) in omega (arith, last)
    of false e = omega (arith, early)

pub begun_left : (r : code.Request) (k : ℕ) (draws : Draws) → phase_left (begun_phase r k draws) ≤ 8
begun_left r k draws = of (is_served (asked_word (request_seen r)))
  where
    of : (served : Bool) → phase_left (cond served (tasks.Making (record { k = k; request = r; word = (worded (asked_word (request_seen r)) draws).word })) tasks.Between) ≤ 8
    of true = omega arith
    of false = omega arith

pub nearer_behind : (work : Work) (t new : TaskSeen) (whose : Whose) (word place : ℕ) (before now : List Placed → Type 0) (did : Steps whose word t new place before now)
    → phase_left (phase_by whose did.effect.trap) < phase_left t.phase → events_left work new < events_left work t
nearer_behind work t new whose word place before now did less =
    let left = left_after work t new whose word place before now did in
    let phase = ap phase_left (phase_of t new whose word place before now did) in
    omega (arith, left, phase, less)

pub nearer_made : (work : Work) (t new : TaskSeen) (m : Making) (word place : ℕ) (before now : List Placed → Type 0) → t.phase ≡ tasks.Making m → Steps (of_request m.k) word t new place before now
    → events_left work new < events_left work t
nearer_made work t new m word place before now is did =
    let old = ap phase_left is in
    let less = made_left m.k did.effect.trap in nearer_behind work t new (of_request m.k) word place before now did (omega (arith, old, less))

pub nearer_handled : (work : Work) (t new : TaskSeen) (g : Handling) (word place : ℕ) (before now : List Placed → Type 0) → t.phase ≡ tasks.Handling g → g.next < 6 → Steps (of_handler g.k g.next) word t new place before now
    → events_left work new < events_left work t
nearer_handled work t new g word place before now is early did =
    let old = ap phase_left is in
    let less = handled_left g.k g.next did.effect.trap early in nearer_behind work t new (of_handler g.k g.next) word place before now did (omega (arith, old, less))

pub nearer_ended : (work : Work) (t new : TaskSeen) (word place : ℕ) (before now : List Placed → Type 0) → t.phase ≡ tasks.Between → Steps of_end word t new place before now
    → events_left work new < events_left work t
nearer_ended work t new word place before now is did = let old = ap phase_left is in nearer_behind work t new of_end word place before now did (omega (arith, old))
