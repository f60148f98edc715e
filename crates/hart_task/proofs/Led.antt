-- Where a run leads a hart of a job by the rules: through its window, word by word, a request behind the other.
use Rattle.std.proofs.Common.{ℕ, ◌+◌, ◌*◌, ◌/◌, ◌%◌, ◌<◌, ◌≤◌, ◌≡◌, Bool, true, false, cond, eqb, eqb-true, List, [], ◌∷◌, length, Option, Some, None, refl, sym, ap, subst, ◌∙◌, arith, lit<, not}
use Rattle.std.specs.Prelude.{IsTrue, is_none, is_some}
use Rattle.std.specs.List.{AllByRecursion}
use Rattle.std.specs.Option.{option_map_or}
use Rattle.std.proofs.lemmas.Bool.Decides.{nat_tests}
use Rattle.rv_fields.specs.Attempt.{◌>>=◌}
use Rattle.rv_fields.specs.CsrFile.{CsrFile, written}
use Rattle.rv_fields.specs.Decode.{Decoded, decoded}
use Rattle.rv_fields.specs.Effect.{Effect}
use Rattle.rv_fields.specs.Field.{field_of, masked, with_field}
use Rattle.rv_fields.specs.Hart.{Registers, updated, Hart}
use Rattle.rv_fields.specs.Laws.{StepLeaves}
use Rattle.rv_fields.specs.Memory.{in_ram}
use Rattle.rv_fields.specs.Step.{Stepped, behind, step, trap_taken}
use Rattle.rv_fields.specs.declared.mode.Mode.TheVariants.{M}
use Rattle.rv_fields.specs.declared.trap.Trap.{Trap}
use Rattle.rv_fields.proofs.Opened.{step_leaves}
use Rattle.region_plan.specs.Plan.{HartPlan, Work, hart_count, no_hart, plan_of}
use Rattle.region_plan.specs.Request.{Items, Request}
use Rattle.region_plan.specs.Rules.{IsMakeable, IsMakeableRequest, KeepsRules}
use Rattle.region_plan.specs.Script.{ScriptItem}
use Rattle.boot_words.specs.Layout.{code_address, m_handler_at, is_in_handler}
use Rattle.boot_words.specs.Startup.{start_csrs, start_mode}
use Rattle.boot_words.proofs.Started.{m_csrs, start_is}
use Rattle.world_face.specs.Events.{Event}
use Rattle.world_face.specs.Runs.{Runs}
use Rattle.hart_task.specs.Acts.{Act, Came, Fixing, event_of, is_last, is_made, steps, is_found}
use Rattle.hart_task.specs.Asking.{IsWordFor, asked_word, demand_asked, is_served, worded}
use Rattle.hart_task.specs.Bus.{word_seen}
use Rattle.hart_task.specs.Heard.{Heard, heard_of}
use Rattle.hart_task.specs.OneRun.{RunsTo}
use Rattle.hart_task.specs.State.{HartState, Loop, Making, Phase, at_end, between, finding, handled, index_of, is_done, start}
use Rattle.hart_task.specs.Stepping.{StepTaken, fixed_in, named_by}
use Rattle.hart_task.specs.Task.{Whose, came_by, done_by, of_end, of_handler, of_request, phase_by, phase_seen, script}
use Rattle.hart_task.specs.declared.task.Phase.TheVariants as tasks
use Rattle.hart_task.specs.Turn.{Turned, acted, acts, at_rest, end_word, is_of, last_turn, made_step, meets, next_of, next_turn, rest_in_loop, step_turn, turned, turned_in, with_word, is_out, out_or_on}
use Rattle.hart_task.proofs.Bare.{GoesOn, Proceeds, bare, bare_step, end_decoded, end_jump, goes_on, is_trapped}
use Rattle.hart_task.proofs.Begins.{IsAsked, IsPlainWork, asked, begins_is, begun_act, begun_state, fits, making_word, plain_hart, plain_work, state_by, window_is, word_drawn}
use Rattle.hart_task.proofs.Found.{handler_word}
use Rattle.hart_task.proofs.Going.{each_late, value_kept}
use Rattle.hart_task.proofs.Handled.{IsInHandler, traps_there}
use Rattle.hart_task.proofs.InHandler.{comes_out, finds_so, found_step, goes_through, handler_ins, handler_quiet}
use Rattle.hart_task.proofs.Makes.{HasSources, IsQuietWord, MakesAt, fixed_hart, index_is, late_by, made_is, sources_told, word_taken}
use Rattle.hart_task.proofs.Plainly.{own_word_told, zero_kept, IsReady}

-- ---- an event is its turn

pub record Did (work : Work) (s : HartState) (e : Event) : Type 0 where
  pub t : Turned
  pub turns : turned work s (heard_of e) ≡ Some t
  pub event : e ≡ event_of work s.hart.number t.act
  pub state : acted work s e ≡ t.state

pub did : (work : Work) (s : HartState) (e : Event) → acts work s e → Did work s e
did work s e does = of (turned work s (heard_of e)) refl does
  where
    of : (o : Option Turned) → o ≡ turned work s (heard_of e) → is_of work s.hart.number e o → Did work s e
    of None is does = absurd does
    of (Some t) is does = record { t = t; turns = sym is; event = does; state = ap (λ m. option_map_or (λ (t : Turned). t.state) m s) (sym is) }

-- the turn that it can only be
pub did_this : (work : Work) (s : HartState) (e : Event) (t : Turned) → acts work s e → turned work s (heard_of e) ≡ Some t
    → (e ≡ event_of work s.hart.number t.act) × (acted work s e ≡ t.state)
did_this work s e t does is = (subst (is_of work s.hart.number e) is does, ap (λ m. option_map_or (λ (t : Turned). t.state) m s) is)

-- ---- in the window

-- behind so many words of its window, and no more steps than these
pub record HasMade (h made most : ℕ) (s : HartState) : Type 0 where
  pub number : s.hart.number ≡ h
  pub zero : s.hart.x 0 ≡ Some 0
  pub loop : s.loop ≡ None
  pub full : (i : ℕ) → i < made → is_some (s.words i) ≡ true
  pub free : (i : ℕ) → made ≤ i → s.words i ≡ None
  pub steps : s.steps ≤ most

-- in mode M, when so many words of the window were made, at the next
pub record IsInWindow (h made : ℕ) (s : HartState) : Type 0 where
  pub so_far : HasMade h made (7 * made) s
  pub mode : s.hart.mode ≡ M
  pub pc : s.hart.pc ≡ code_address h made
  -- a trap goes to the handler
  pub handler : s.hart.csrs.mtvec ≡ m_handler_at
  pub aligned : s.hart.csrs.mepc % 4 ≡ 0

-- in the handler of a trap that the word of this index took: word i of it comes next
pub record IsInTrap (h index i : ℕ) (s : HartState) : Type 0 where
  pub so_far : HasMade h (index + 1) (7 * index + 1 + i) s
  pub early : i < 6
  pub at : IsInHandler i (code_address h index) s.hart

-- what is left of a template
pub record AreLeft (k : ℕ) (items : List ScriptItem) : Type 0 where
  pub room : k + length items ≤ 1000
  pub makeable : AllByRecursion IsMakeable items

-- a hart of the job
pub record IsMember (work : Work) (h : ℕ) : Type 0 where
  pub keeps : KeepsRules work
  pub member : h < hart_count work

low_number : (work : Work) (h : ℕ) → IsMember work h → h < 16
low_number work h is = let most = is.keeps.most in omega (arith, most, is.member)

pub makes_at : (work : Work) (h made : ℕ) (s : HartState) → IsMember work h → made ≤ 1000 → IsInWindow h made s → MakesAt work s made
makes_at work h made s is few at = record {
  plain = plain.plan;
  some_pages = plain.some_pages;
  few = subst (λ n. n < 16) (sym at.so_far.number) (low_number work h is);
  short = omega (arith, few);
  free = at.so_far.free made (omega arith);
  pc = at.pc ∙ ap (λ n. code_address n made) (sym at.so_far.number);
  mode = at.mode;
}
  where
    plain : IsPlainWork work s.hart.number
    plain = plain_work work s.hart.number is.keeps (subst (λ n. n < hart_count work) (sym at.so_far.number) is.member)

-- the address behind
next_pc : (h k : ℕ) → h < 16 → k ≤ 1000 → behind (code_address h k) ≡ code_address h (k + 1)
next_pc h k low few = omega (arith, low, few)

-- ---- a word is stepped there

-- the step of the hart as its log knows it
abbrev pub stepped_so : HartState → ℕ → Option Decoded → Stepped
stepped_so s word m = let known : HasSources (fixed_in s.hart.x (late_by s m)) m = sources_told s.hart.x s.draws m in bare_step (fixed_hart s m) word m known.a known.b

pub ready_in_window : (work : Work) (h made : ℕ) (s : HartState) → IsMember work h → made ≤ 1000 → IsInWindow h made s → IsReady s.hart
ready_in_window work h made s is few at =
    let low = low_number work h is in
    let pc = at.pc in
    let inside : in_ram s.hart.pc 4 ≡ true = grind (arith, nat_tests) in
    record { mode = at.mode; in_it = subst IsTrue (sym inside) refl; aligned = omega (arith, pc); small = omega (arith, pc, low, few) }

pub ready_in_trap : (h index i : ℕ) (s : HartState) → IsInTrap h index i s → IsReady s.hart
ready_in_trap h index i s at =
    let pc = at.at.pc in
    let early = at.early in
    let inside : in_ram s.hart.pc 4 ≡ true = grind (arith, nat_tests) in
    record { mode = at.at.mode; in_it = subst IsTrue (sym inside) refl; aligned = omega (arith, pc); small = omega (arith, pc, early) }

-- it is done where nothing but the word is told of memory
pub steps_so : (s : HartState) (word : ℕ) (m : Option Decoded) → IsReady s.hart → IsQuietWord word m → step (word_seen s.hart.pc word) (fixed_hart s m) ≡ Some (stepped_so s word m)
steps_so s word m ready quiet =
    let known : HasSources (fixed_in s.hart.x (late_by s m)) m = sources_told s.hart.x s.draws m in
    bare (word_seen s.hart.pc word) (fixed_hart s m) word m known.a known.b ready.mode (own_word_told s.hart.pc word ready.in_it quiet.small) quiet.row quiet.bare known.told

pub leaves_so : (s : HartState) (word : ℕ) (m : Option Decoded) → IsReady s.hart → IsQuietWord word m → StepLeaves (fixed_hart s m) (stepped_so s word m)
leaves_so s word m ready quiet = step_leaves (word_seen s.hart.pc word) (fixed_hart s m) (stepped_so s word m) (steps_so s word m ready quiet)

zero_behind : (s : HartState) (word : ℕ) (m : Option Decoded) → IsReady s.hart → IsQuietWord word m → s.hart.x 0 ≡ Some 0 → (stepped_so s word m).hart.x 0 ≡ Some 0
zero_behind s word m ready quiet zero =
    let fixed : Registers = fixed_in s.hart.x (late_by s m) in
    ap (λ (f : Registers). f 0) (leaves_so s word m ready quiet).registers
    ∙ zero_kept fixed (word_seen s.hart.pc word) (fixed_hart s m) (stepped_so s word m) (steps_so s word m ready quiet)
    ∙ value_kept s.hart.x s.hart.x (late_by s m) 0 0 (each_late s.hart.x s.draws (named_by m)) zero zero

-- and the log's hart makes it
makes_so : (work : Work) (h made : ℕ) (s : HartState) (heard : Heard) (word : ℕ) (m : Option Decoded) → IsMember work h → made ≤ 1000 → IsInWindow h made s → IsQuietWord word m
    → made_step work s word heard None ≡ Some (word_taken (with_word work s word) m (stepped_so s word m))
makes_so work h made s heard word m is few at quiet =
    let known : HasSources (fixed_in s.hart.x (late_by s m)) m = sources_told s.hart.x s.draws m in
    made_is work s heard made word m known.a known.b (makes_at work h made s is few at) quiet known.told

-- the state behind a step, with these words of the window
abbrev pub state_with : HartState → ℕ → Option Decoded → (ℕ → Option ℕ) → Phase → HartState
state_with s word m words phase = record (word_taken s m (stepped_so s word m)).state { words = words; phase = phase }

abbrev pub words_made_at : Work → HartState → ℕ → ℕ → Option ℕ
words_made_at work s word = updated s.words (index_of work s) (Some word)

abbrev pub stepping : Came → Option ℕ → List Fixing → Effect → Act
stepping came ends late effect = steps (record { came = came; registers = late; bytes = []; effect = effect; wanted = None; probe = None; ends = ends })

-- what the hart does there
abbrev pub stepped_turn : HartState → Whose → ℕ → Option Decoded → (ℕ → Option ℕ) → Turned
stepped_turn s whose word m words =
    let e : Effect = (stepped_so s word m).effect in
    record { act = stepping (came_by whose) (done_by whose e.trap) (late_by s m) e; state = state_with s word m words (phase_seen (phase_by whose e.trap)) }

-- one word more was made
made_more : (work : Work) (h made : ℕ) (s : HartState) (word : ℕ) (m : Option Decoded) (phase : Phase) → IsMember work h → made ≤ 1000 → IsInWindow h made s → IsQuietWord word m
    → HasMade h (made + 1) (7 * made + 1) (state_with s word m (words_made_at work s word) phase)
made_more work h made s word m phase is few at quiet = record {
  number = (leaves_so s word m ready quiet).number ∙ at.so_far.number;
  zero = zero_behind s word m ready quiet at.so_far.zero;
  loop = at.so_far.loop;
  full = λ i low. ap (λ index. is_some (updated s.words index (Some word) i)) index ∙ full_below i low (eqb i made) refl;
  free = λ i late. ap (λ index. updated s.words index (Some word) i) index ∙ free_above i late (eqb i made) refl;
  steps = let steps = at.so_far.steps in omega (arith, steps);
}
  where
    ready : IsReady s.hart
    ready = ready_in_window work h made s is few at

    index : index_of work s ≡ made
    index = index_is work s made (makes_at work h made s is few at)

    full_below : (i : ℕ) → i < made + 1 → (t : Bool) → t ≡ eqb i made → is_some (cond t (Some word) (s.words i)) ≡ true
    full_below i low true e = refl
    full_below i low false e = at.so_far.full i (let other : i < made = grind (arith, nat_tests, low, e) in other)

    free_above : (i : ℕ) → made + 1 ≤ i → (t : Bool) → t ≡ eqb i made → cond t (Some word) (s.words i) ≡ None
    free_above i late true e = absurd (let same : i ≡ made = eqb-true i made (sym e) in omega (arith, same, late))
    free_above i late false e = at.so_far.free i (omega (arith, late))

-- the hart goes on at the next word
window_behind : (work : Work) (h made : ℕ) (s : HartState) (word : ℕ) (m : Option Decoded) (phase : Phase) → IsMember work h → made ≤ 1000 → IsInWindow h made s → IsQuietWord word m
    → GoesOn (fixed_hart s m) (stepped_so s word m) → IsInWindow h (made + 1) (state_with s word m (words_made_at work s word) phase)
window_behind work h made s word m phase is few at quiet on =
    let more = made_more work h made s word m phase is few at quiet in
    record {
      so_far = record { number = more.number; zero = more.zero; loop = more.loop; full = more.full; free = more.free; steps = let steps = more.steps in omega (arith, steps) };
      mode = on.mode ∙ at.mode;
      pc = on.pc_is ∙ ap behind at.pc ∙ next_pc h made (low_number work h is) few;
      handler = on.way.0 ∙ at.handler;
      aligned = ap (λ n. n % 4) on.way.1 ∙ at.aligned;
    }

-- or in the handler
trap_behind : (work : Work) (h made : ℕ) (s : HartState) (word : ℕ) (m : Option Decoded) (phase : Phase) (cause tval : ℕ) → IsMember work h → made ≤ 1000 → IsInWindow h made s → IsQuietWord word m
    → stepped_so s word m ≡ trap_taken (fixed_hart s m) (Some s.hart.pc) (Some word) cause tval [] → IsInTrap h made 0 (state_with s word m (words_made_at work s word) phase)
trap_behind work h made s word m phase cause tval is few at quiet trapped =
    let ready = ready_in_window work h made s is few at in
    let there = traps_there (fixed_hart s m) (Some s.hart.pc) (Some word) cause tval at.mode at.handler at.aligned ready.aligned ready.small in
    let more = made_more work h made s word m phase is few at quiet in
    record {
      so_far = record { number = more.number; zero = more.zero; loop = more.loop; full = more.full; free = more.free; steps = let steps = more.steps in omega (arith, steps) };
      early = lit< tt;
      at = subst (λ (q : Stepped). IsInHandler 0 (code_address h made) q.hart) (sym trapped)
          (subst (λ epc. IsInHandler 0 epc (trap_taken (fixed_hart s m) (Some s.hart.pc) (Some word) cause tval []).hart) at.pc there);
    }

-- ---- between two requests

-- behind k requests, and as many words as are made; no request makes more than one
pub record IsBetween (h k made : ℕ) (items : List ScriptItem) (s : HartState) : Type 0 where
  pub phase : s.phase ≡ between
  pub left : s.left ≡ items
  pub count : s.count ≡ k
  pub window : IsInWindow h made s
  pub behind : made ≤ k
  pub ahead : AreLeft k items

pub record IsUnderWay (h k made : ℕ) (r : Request) (word : ℕ) (items : List ScriptItem) (s : HartState) : Type 0 where
  pub phase : s.phase ≡ making_word k r word
  pub makeable : IsMakeableRequest r
  pub is_for : IsWordFor (asked_word r) word
  pub left : s.left ≡ items
  pub count : s.count ≡ k + 1
  pub window : IsInWindow h made s
  pub behind : made ≤ k
  pub ahead : AreLeft (k + 1) items

-- the handler of the request's trap is stepped
pub record IsHandling (h k made i : ℕ) (items : List ScriptItem) (s : HartState) : Type 0 where
  pub phase : s.phase ≡ finding k handled
  pub left : s.left ≡ items
  pub count : s.count ≡ k + 1
  pub trap : IsInTrap h made i s
  pub behind : made ≤ k
  pub ahead : AreLeft (k + 1) items

pub few_made : (k made n : ℕ) → made ≤ k → k + n ≤ 1000 → made ≤ 1000
few_made k made n behind room = omega (arith, behind, room)

-- the next request begins
pub begins_so : (work : Work) (h k made : ℕ) (item : ScriptItem) (rest : List ScriptItem) (s : HartState) (heard : Heard) → IsMember work h → IsBetween h k made (item ∷ rest) s
    → turned work s heard ≡ Some (record { act = begun_act s.count item.request; state = begun_state s item rest })
begins_so work h k made item rest s heard is at =
    let window = at.window in
    let room = at.ahead.room in
    let behind = at.behind in
    let few : made ≤ 1000 = few_made k made _ behind room in
    let index : index_of work s ≡ made = index_is work s made (makes_at work h made s is few window) in
    begins_is work s heard item rest is.keeps (subst (λ n. n < hart_count work) (sym window.so_far.number) is.member) at.phase window.so_far.loop at.left at.ahead.makeable.0
    (let steps = window.so_far.steps in omega (arith, steps, few)) (omega (arith, index, room, behind))

-- it is under way then, or refused
pub data HasBegun (h k made : ℕ) (r : Request) (word : ℕ) (rest : List ScriptItem) (s : HartState) : Type 0 where
  is_under_way : is_served (asked_word r) ≡ true → IsUnderWay h k made r word rest s → HasBegun h k made r word rest s
  was_refused : is_served (asked_word r) ≡ false → IsBetween h (k + 1) made rest s → HasBegun h k made r word rest s

pub has_begun : (h k made : ℕ) (item : ScriptItem) (rest : List ScriptItem) (s : HartState) → IsBetween h k made (item ∷ rest) s
    → HasBegun h k made item.request (worded (asked_word item.request) s.draws).word rest (begun_state s item rest)
has_begun h k made item rest s at = of (is_served (asked_word r)) refl
  where
    r : Request
    r = item.request

    word : ℕ
    word = (worded (asked_word r) s.draws).word

    ahead : AreLeft (k + 1) rest
    ahead = record { room = let room = at.ahead.room in omega (arith, room); makeable = at.ahead.makeable.1 }

    window : (served : Bool) → IsInWindow h made (state_by served s r rest)
    window served =
        let so_far = at.window.so_far in
        record {
          so_far = record { number = so_far.number; zero = so_far.zero; loop = so_far.loop; full = so_far.full; free = so_far.free; steps = so_far.steps };
          mode = at.window.mode;
          pc = at.window.pc;
          handler = at.window.handler;
          aligned = at.window.aligned;
        }

    of : (served : Bool) → served ≡ is_served (asked_word r) → HasBegun h k made r word rest (state_by served s r rest)
    of true is = is_under_way (sym is) (record {
      phase = ap (λ n. making_word n r word) at.count;
      makeable = at.ahead.makeable.0.0;
      is_for = word_drawn (asked_word r) s.draws (fits r at.ahead.makeable.0.0) (sym is);
      left = refl;
      count = ap (λ n. n + 1) at.count;
      window = window true;
      behind = at.behind;
      ahead = ahead;
    })
    of false is = was_refused (sym is) (record {
      phase = refl;
      left = refl;
      count = ap (λ n. n + 1) at.count;
      window = window false;
      behind = let behind = at.behind in omega (arith, behind);
      ahead = ahead;
    })

-- ---- its word is made

-- it is done then, or its handler comes first
pub made_so : (work : Work) (h k made : ℕ) (r : Request) (word : ℕ) (items : List ScriptItem) (s : HartState) (heard : Heard) → IsAsked r word → IsMember work h → IsUnderWay h k made r word items s
    → turned work s heard ≡ Some (stepped_turn s (of_request k) word (decoded word) (words_made_at work s word))
made_so work h k made r word items s heard q is at =
    ap (turned_in work s heard) at.phase
    ∙ ap (λ (made : Option StepTaken). made >>= goes_by) (makes_so work h made s heard word m is few at.window q.quiet)
    ∙ ap (λ t. cond t (Some (last_turn work k (is_done (demand_asked r)) None taken)) None) (q.demands (fixed_hart s m) _ _ at.window.mode)
    ∙ ap Some (of taken.effect.trap)
  where
    few : made ≤ 1000
    few = few_made (k + 1) made _ (let behind = at.behind in omega (arith, behind)) at.ahead.room

    m : Option Decoded
    m = decoded word

    taken : StepTaken
    taken = word_taken (with_word work s word) m (stepped_so s word m)

    goes_by : StepTaken → Option Turned
    goes_by t = cond (meets (demand_asked r) t.effect.trap) (Some (last_turn work k (is_done (demand_asked r)) None t)) None

    of : (trap : Option Trap)
        → cond (is_none trap) (step_turn is_made None (Some k) taken (at_rest work taken.state)) (step_turn is_made None None taken (record taken.state { phase = finding k handled }))
        ≡ record {
          act = stepping is_made (done_by (of_request k) trap) (late_by s m) taken.effect;
          state = record taken.state { phase = phase_seen (phase_by (of_request k) trap) };
        }
    of None = ap (λ o. step_turn is_made None (Some k) taken (option_map_or (λ (l : Loop). rest_in_loop work taken.state l l.body) o (record taken.state { phase = between }))) at.window.so_far.loop
    of (Some trap) = refl

-- the hart behind it
pub data IsBehind (h k made : ℕ) (items : List ScriptItem) (trap : Option Trap) (s : HartState) : Type 0 where
  is_between : trap ≡ None → IsBetween h (k + 1) (made + 1) items s → IsBehind h k made items trap s
  is_handling : (t : Trap) → trap ≡ Some t → IsHandling h k made 0 items s → IsBehind h k made items trap s

trap_of : (hart : Hart) (pa word : Option ℕ) (cause tval : ℕ) (s : Stepped) → s ≡ trap_taken hart pa word cause tval [] → (t : Trap) × (s.effect.trap ≡ Some t)
unfolding trap_taken
trap_of hart pa word cause tval s is = (_, ap (λ (q : Stepped). q.effect.trap) is)

pub made_behind : (work : Work) (h k made : ℕ) (r : Request) (word : ℕ) (items : List ScriptItem) (s : HartState) → IsAsked r word → IsMember work h → IsUnderWay h k made r word items s
    → let m : Option Decoded = decoded word in
    IsBehind h k made items (stepped_so s word m).effect.trap (stepped_turn s (of_request k) word m (words_made_at work s word)).state
made_behind work h k made r word items s q is at = of (q.proceeds (fixed_hart s m) _ _ at.window.mode)
  where
    few : made ≤ 1000
    few = few_made (k + 1) made _ (let behind = at.behind in omega (arith, behind)) at.ahead.room

    m : Option Decoded
    m = decoded word

    trap : Option Trap
    trap = (stepped_so s word m).effect.trap

    there : HartState
    there = (stepped_turn s (of_request k) word m (words_made_at work s word)).state

    of : Proceeds (fixed_hart s m) word (stepped_so s word m) → IsBehind h k made items trap there
    of (goes_on on) = is_between on.trap (record {
      phase = ap (λ t. phase_seen (phase_by (of_request k) t)) on.trap;
      left = at.left;
      count = at.count;
      window = window_behind work h made s word m (phase_seen (phase_by (of_request k) trap)) is few at.window q.quiet on;
      behind = let behind = at.behind in omega (arith, behind);
      ahead = at.ahead;
    })
    of (is_trapped cause tval trapped) =
        let t = trap_of (fixed_hart s m) (Some s.hart.pc) (Some word) cause tval (stepped_so s word m) trapped in
        is_handling t.0 t.1 (record {
          phase = ap (λ t. phase_seen (phase_by (of_request k) t)) t.1;
          left = at.left;
          count = at.count;
          trap = trap_behind work h made s word m (phase_seen (phase_by (of_request k) trap)) cause tval is few at.window q.quiet trapped;
          behind = at.behind;
          ahead = at.ahead;
        })

-- ---- a word of the handler is found

-- the hart is out behind the last
out_behind : (h made i : ℕ) (s : HartState) → h < 16 → made ≤ 1000 → IsInTrap h made i s → is_out handled (found_step s i).hart ≡ eqb i 5
out_behind h made i s low few at = of (eqb i 5) refl
  where
    goes : i < 5 → is_out handled (found_step s i).hart ≡ false
    goes early =
        let next = goes_through s i (code_address h made) early (omega arith) (omega (arith, low, few)) at.at in
        let pc = next.pc in
        let inside : eqb ((found_step s i).hart.pc / 4096) (m_handler_at / 4096) ≡ true = grind (arith, nat_tests) in
        ap (λ mode. not (is_in_handler mode (found_step s i).hart.pc)) next.mode ∙ ap not inside

    comes : i ≡ 5 → is_out handled (found_step s i).hart ≡ true
    comes last =
        let out = comes_out s (code_address h made) (subst (λ n. IsInHandler n (code_address h made) s.hart) last at.at) in
        let pc = out.pc in
        let outside : eqb ((found_step s 5).hart.pc / 4096) (m_handler_at / 4096) ≡ false = grind (arith, nat_tests) in
        ap (λ n. is_out handled (found_step s n).hart) last ∙ ap (λ mode. not (is_in_handler mode (found_step s 5).hart.pc)) out.mode ∙ ap not outside

    of : (t : Bool) → t ≡ eqb i 5 → is_out handled (found_step s i).hart ≡ t
    of true e = comes (eqb-true i 5 (sym e))
    of false e = goes (let early = at.early in grind (arith, nat_tests))

pub found_so : (work : Work) (h k made i : ℕ) (items : List ScriptItem) (s : HartState) (heard : Heard) → IsMember work h → IsHandling h k made i items s
    → turned work s heard ≡ Some (stepped_turn s (of_handler k i) (handler_word i) (Some (handler_ins i)) s.words)
found_so work h k made i items s heard is at =
    ap (turned_in work s heard) at.phase
    ∙ ap (λ (found : Option StepTaken). found >>= goes_by) (finds_so work s heard i (code_address h made) at.trap.early at.trap.at)
    ∙ ap (λ t. Some (cond t (step_turn is_found None (Some k) taken (at_rest work taken.state)) (step_turn is_found None None taken (record taken.state { phase = finding k handled }))))
    (out_behind h made i s (low_number work h is) (few_made (k + 1) made _ (let behind = at.behind in omega (arith, behind)) at.ahead.room) at.trap)
    ∙ ap Some (of (eqb i 5))
  where
    taken : StepTaken
    taken = word_taken s (Some (handler_ins i)) (found_step s i)

    goes_by : StepTaken → Option Turned
    goes_by t = Some (out_or_on is_found work k handled t t.state)

    of : (t : Bool)
        → cond t (step_turn is_found None (Some k) taken (at_rest work taken.state)) (step_turn is_found None None taken (record taken.state { phase = finding k handled }))
        ≡ record {
          act = stepping is_found (cond t (Some k) None) (late_by s (Some (handler_ins i))) taken.effect;
          state = record taken.state { phase = phase_seen (cond t tasks.Between (tasks.Handling (record { k = k; next = i + 1 }))) };
        }
    of true = ap (λ o. step_turn is_found None (Some k) taken (option_map_or (λ (l : Loop). rest_in_loop work taken.state l l.body) o (record taken.state { phase = between }))) at.trap.so_far.loop
    of false = refl

-- no word was made by it
found_more : (h made i : ℕ) (s : HartState) (phase : Phase) → IsInTrap h made i s → HasMade h (made + 1) (7 * made + 2 + i) (state_with s (handler_word i) (Some (handler_ins i)) s.words phase)
found_more h made i s phase at =
    let ready = ready_in_trap h made i s at in
    let quiet = handler_quiet i at.early in
    record {
      number = (leaves_so s (handler_word i) (Some (handler_ins i)) ready quiet).number ∙ at.so_far.number;
      zero = zero_behind s (handler_word i) (Some (handler_ins i)) ready quiet at.so_far.zero;
      loop = at.so_far.loop;
      full = at.so_far.full;
      free = at.so_far.free;
      steps = let steps = at.so_far.steps in omega (arith, steps);
    }

-- the hart behind it: at the next word of the handler, or behind the word that trapped
pub found_on : (work : Work) (h k made i : ℕ) (items : List ScriptItem) (s : HartState) → IsMember work h → i < 5 → IsHandling h k made i items s
    → IsHandling h k made (i + 1) items (stepped_turn s (of_handler k i) (handler_word i) (Some (handler_ins i)) s.words).state
found_on work h k made i items s is early at =
    let room = at.ahead.room in
    let behind = at.behind in
    let low = low_number work h is in
    let other : eqb i 5 ≡ false = grind (arith, nat_tests) in
    let more = found_more h made i s (phase_seen (phase_by (of_handler k i) (found_step s i).effect.trap)) at.trap in
    record {
      phase = ap (λ t. phase_seen (cond t tasks.Between (tasks.Handling (record { k = k; next = i + 1 })))) other;
      left = at.left;
      count = at.count;
      trap = record {
        so_far = record { number = more.number; zero = more.zero; loop = more.loop; full = more.full; free = more.free; steps = let steps = more.steps in omega (arith, steps) };
        early = omega (arith, early);
        at = goes_through s i (code_address h made) early (omega arith) (omega (arith, low, room, behind)) at.trap.at;
      };
      behind = behind;
      ahead = at.ahead;
    }

pub found_out : (work : Work) (h k made : ℕ) (items : List ScriptItem) (s : HartState) → IsMember work h → IsHandling h k made 5 items s
    → IsBetween h (k + 1) (made + 1) items (stepped_turn s (of_handler k 5) (handler_word 5) (Some (handler_ins 5)) s.words).state
found_out work h k made items s is at =
    let out = comes_out s (code_address h made) at.trap.at in
    let more = found_more h made 5 s between at.trap in
    record {
      phase = refl;
      left = at.left;
      count = at.count;
      window = record {
        so_far = record { number = more.number; zero = more.zero; loop = more.loop; full = more.full; free = more.free; steps = let steps = more.steps in omega (arith, steps) };
        mode = out.mode;
        pc = out.pc ∙ omega arith;
        handler = out.handler;
        aligned = ap (λ n. n % 4) out.kept ∙ omega arith;
      };
      behind = let behind = at.behind in omega (arith, behind);
      ahead = at.ahead;
    }

-- ---- the ending step

pub end_quiet : IsQuietWord end_word (Some end_jump)
end_quiet = record { small = lit< tt; row = end_decoded; bare = refl; closed = refl }

pub ends_so : (work : Work) (h k made : ℕ) (s : HartState) (heard : Heard) → IsMember work h → IsBetween h k made [] s
    → turned work s heard ≡ Some (stepped_turn s of_end end_word (Some end_jump) (words_made_at work s end_word))
ends_so work h k made s heard is at =
    ap (turned_in work s heard) at.phase
    ∙ ap (λ l. next_turn work s heard (next_of s l s.left)) at.window.so_far.loop
    ∙ ap (λ left. next_turn work s heard (next_of s None left)) at.left
    ∙ ap (λ (made : Option StepTaken). made >>= last_by) (makes_so work h made s heard end_word (Some end_jump) is (few_made k made _ at.behind at.ahead.room) at.window end_quiet)
  where
    last_by : StepTaken → Option Turned
    last_by t = Some (step_turn is_last None None t (record t.state { phase = at_end }))

-- ---- a run

-- It rests between requests, its request's word is made, or the handler of that is stepped, or it rests for good.
pub data IsLed (h : ℕ) (s : HartState) : Type 0 where
  rests : (k made : ℕ) (items : List ScriptItem) → IsBetween h k made items s → IsLed h s
  works : (k made : ℕ) (r : Request) (word : ℕ) (items : List ScriptItem) → IsUnderWay h k made r word items s → IsLed h s
  is_handled : (k made i : ℕ) (items : List ScriptItem) → IsHandling h k made i items s → IsLed h s
  rests_for_good : s.phase ≡ at_end → (made : ℕ) → made ≤ 1000 → HasMade h (made + 1) (7 * made + 1) s → s.count ≤ 1000 → IsLed h s

-- a finished hart does nothing more
pub none_behind : (work : Work) (s : HartState) (e : Event) → s.phase ≡ at_end → acts work s e → ⊥
none_behind work s e at does = subst (λ phase. is_of work s.hart.number e (turned_in work s (heard_of e) phase)) at does

led_begun : (h k made : ℕ) (r : Request) (word : ℕ) (rest : List ScriptItem) (s : HartState) → HasBegun h k made r word rest s → IsLed h s
led_begun h k made r word rest s (is_under_way served at) = works k made r word rest at
led_begun h k made r word rest s (was_refused served at) = rests (k + 1) made rest at

led_behind : (h k made : ℕ) (items : List ScriptItem) (trap : Option Trap) (s : HartState) → IsBehind h k made items trap s → IsLed h s
led_behind h k made items trap s (is_between none at) = rests (k + 1) (made + 1) items at
led_behind h k made items trap s (is_handling t some at) = is_handled k made 0 items at

led_found : (work : Work) (h k made i : ℕ) (items : List ScriptItem) (s : HartState) → IsMember work h → IsHandling h k made i items s
    → IsLed h (stepped_turn s (of_handler k i) (handler_word i) (Some (handler_ins i)) s.words).state
led_found work h k made i items s is at = of (eqb i 5) refl
  where
    of : (t : Bool) → t ≡ eqb i 5 → IsLed h (stepped_turn s (of_handler k i) (handler_word i) (Some (handler_ins i)) s.words).state
    of true e =
        let last : 5 ≡ i = sym (eqb-true i 5 (sym e)) in
        subst (λ n. IsLed h (stepped_turn s (of_handler k n) (handler_word n) (Some (handler_ins n)) s.words).state) last
        (rests (k + 1) (made + 1) items (found_out work h k made items s is (subst (λ n. IsHandling h k made n items s) (sym last) at)))
    of false e = is_handled k made (i + 1) items (found_on work h k made i items s is (let early = at.trap.early in grind (arith, nat_tests)) at)

-- the state when the ending word was made
pub ended_behind : (work : Work) (h k made : ℕ) (s : HartState) → IsMember work h → IsBetween h k made [] s
    → HasMade h (made + 1) (7 * made + 1) (stepped_turn s of_end end_word (Some end_jump) (words_made_at work s end_word)).state
ended_behind work h k made s is at = made_more work h made s end_word (Some end_jump) at_end is (few_made k made _ at.behind at.ahead.room) at.window end_quiet

led_on : (work : Work) (h : ℕ) (s : HartState) (e : Event) → IsMember work h → IsLed h s → acts work s e → IsLed h (acted work s e)
led_on work h s e is (rests k made [] at) does =
    let this = did_this work s e _ does (ends_so work h k made s (heard_of e) is at) in
    let room = at.ahead.room in
    subst (IsLed h) (sym this.1) (rests_for_good refl made (few_made k made _ at.behind room) (ended_behind work h k made s is at) (omega (arith, at.count, room)))
led_on work h s e is (rests k made (item ∷ rest) at) does =
    subst (IsLed h) (sym (did_this work s e _ does (begins_so work h k made item rest s (heard_of e) is at)).1) (led_begun h k made item.request _ rest _ (has_begun h k made item rest s at))
led_on work h s e is (works k made r word items at) does =
    let q = asked r word at.makeable at.is_for in
    subst (IsLed h) (sym (did_this work s e _ does (made_so work h k made r word items s (heard_of e) q is at)).1) (led_behind h k made items _ _ (made_behind work h k made r word items s q is at))
led_on work h s e is (is_handled k made i items at) does =
    subst (IsLed h) (sym (did_this work s e _ does (found_so work h k made i items s (heard_of e) is at)).1) (led_found work h k made i items s is at)
led_on work h s e is (rests_for_good at made few has short) does = absurd (none_behind work s e at does)

-- a request is begun, and a step taken, no more often than this
pub led_few : (h : ℕ) (s : HartState) → IsLed h s → (s.count ≤ 1000) × (s.steps ≤ 7001)
led_few h s (rests k made items at) =
    let room = at.ahead.room in
    let behind = at.behind in
    let steps = at.window.so_far.steps in (omega (arith, at.count, room), omega (arith, steps, room, behind))
led_few h s (works k made r word items at) =
    let room = at.ahead.room in
    let behind = at.behind in
    let steps = at.window.so_far.steps in (omega (arith, at.count, room), omega (arith, steps, room, behind))
led_few h s (is_handled k made i items at) =
    let room = at.ahead.room in
    let behind = at.behind in
    let early = at.trap.early in
    let steps = at.trap.so_far.steps in (omega (arith, at.count, room), omega (arith, steps, room, early, behind))
led_few h s (rests_for_good at made few has short) = let steps = has.steps in (short, omega (arith, steps, few))

-- a hart that makes a word is at work on its request
pub under_way : (h k : ℕ) (r : Request) (word : ℕ) (s : HartState) → IsLed h s → s.phase ≡ making_word k r word → IsMakeableRequest r → IsWordFor (asked_word r) word
    → (made : ℕ) × (items : List ScriptItem) × IsUnderWay h k made r word items s
under_way h k r word s (rests j made items at) phase makeable is_for = absurd (let no : between ≡ making_word k r word = sym at.phase ∙ phase in cc)
under_way h k r word s (works j made q other items at) phase makeable is_for =
    let both : making_word j q other ≡ making_word k r word = sym at.phase ∙ phase in
    let record_is : record { k = j; words = other ∷ []; sequel = is_done (demand_asked q) } ≡ record { k = k; words = word ∷ []; sequel = is_done (demand_asked r) } = cc in
    let same : j ≡ k = ap (λ (m : Making). m.k) record_is in (
      made,
      items,
      record {
        phase = phase;
        makeable = makeable;
        is_for = is_for;
        left = at.left;
        count = at.count ∙ ap (λ n. n + 1) same;
        window = at.window;
        behind = subst (λ n. made ≤ n) same at.behind;
        ahead = subst (λ n. AreLeft (n + 1) items) same at.ahead;
      },
    )
under_way h k r word s (is_handled j made i items at) phase makeable is_for = absurd (let no : finding j handled ≡ making_word k r word = sym at.phase ∙ phase in cc)
under_way h k r word s (rests_for_good at made few has short) phase makeable is_for = absurd (let no : at_end ≡ making_word k r word = sym at ∙ phase in cc)

-- one that steps a handler is in it
pub handled_there : (h k : ℕ) (s : HartState) → IsLed h s → s.phase ≡ finding k handled → (made : ℕ) × (i : ℕ) × (items : List ScriptItem) × IsHandling h k made i items s
handled_there h k s (rests j made items at) phase = absurd (let no : between ≡ finding k handled = sym at.phase ∙ phase in cc)
handled_there h k s (works j made r word items at) phase = absurd (let no : making_word j r word ≡ finding k handled = sym at.phase ∙ phase in cc)
handled_there h k s (is_handled j made i items at) phase =
    let both : finding j handled ≡ finding k handled = sym at.phase ∙ phase in
    let same : j ≡ k = cc in (made, i, items, subst (λ n. IsHandling h n made i items s) same at)
handled_there h k s (rests_for_good at made few has short) phase = absurd (let no : at_end ≡ finding k handled = sym at ∙ phase in cc)

pub at_rest_there : (h : ℕ) (items : List ScriptItem) (s : HartState) → IsLed h s → s.phase ≡ between → s.left ≡ items → (made : ℕ) × IsBetween h s.count made items s
at_rest_there h items s (rests k made left at) phase is = (
  made,
  record {
    phase = phase;
    left = is;
    count = refl;
    window = at.window;
    behind = subst (λ n. made ≤ n) (sym at.count) at.behind;
    ahead = subst (λ n. AreLeft n items) (sym at.count) (subst (AreLeft k) (sym at.left ∙ is) at.ahead);
  },
)
at_rest_there h items s (works k made r word left at) phase is = absurd (let no : making_word k r word ≡ between = sym at.phase ∙ phase in cc)
at_rest_there h items s (is_handled k made i left at) phase is = absurd (let no : finding k handled ≡ between = sym at.phase ∙ phase in cc)
at_rest_there h items s (rests_for_good at made few has short) phase is = absurd (let no : at_end ≡ between = sym at ∙ phase in cc)

-- a finished one has made its words, and the ending one
pub at_end_there : (h : ℕ) (s : HartState) → IsLed h s → s.phase ≡ at_end → (made : ℕ) × (made ≤ 1000) × HasMade h (made + 1) (7 * made + 1) s
at_end_there h s (rests k made items at) phase = absurd (let no : between ≡ at_end = sym at.phase ∙ phase in cc)
at_end_there h s (works k made r word items at) phase = absurd (let no : making_word k r word ≡ at_end = sym at.phase ∙ phase in cc)
at_end_there h s (is_handled k made i items at) phase = absurd (let no : finding k handled ≡ at_end = sym at.phase ∙ phase in cc)
at_end_there h s (rests_for_good at made few has short) phase = (made, few, has)

led_from : (work : Work) (h : ℕ) (s end : HartState) (events : List Event) → IsMember work h → IsLed h s → Runs (acts work) (acted work) s events end → IsLed h end
led_from work h s end [] is at run = subst (IsLed h) (sym run) at
led_from work h s end (e ∷ es) is at run = led_from work h (acted work s e) end es is (led_on work h s e is at run.0) run.1

in_mode_m : (pages : ℕ) (items : Items) (h : ℕ) → start_mode (record no_hart { code_pages = pages; template = items }) h ≡ M
unfolding start_mode written masked with_field field_of
in_mode_m pages items h = refl

-- no part of the start reads the code pages and the template
pub csrs_plain : (pages : ℕ) (items : Items) (h : ℕ) → start_csrs (record no_hart { code_pages = pages; template = items }) h ≡ start_csrs no_hart h
unfolding start_csrs
csrs_plain pages items h = refl

pub start_between : (work : Work) (seed h : ℕ) → IsMember work h → IsBetween h 0 0 (script work h) (start work seed h)
start_between work seed h is =
    let plain = plain_work work h is.keeps is.member in
    let hart = plain_hart work h is.keeps is.member in
    let room = hart.room in
    let low = low_number work h is in
    let file_is : start_csrs (plan_of work h) h ≡ m_csrs h =
    ap (λ (p : HartPlan). start_csrs p h) plain.plan ∙ csrs_plain (plan_of work h).code_pages (plan_of work h).template h ∙ start_is h (omega (arith, low)) in
    record {
      phase = refl;
      left = refl;
      count = refl;
      window = record {
        so_far = record { number = refl; zero = refl; loop = refl; full = λ i low. absurd (omega (arith, low)); free = λ i late. refl; steps = omega arith };
        mode = ap (λ (p : HartPlan). start_mode p h) plain.plan ∙ in_mode_m (plan_of work h).code_pages (plan_of work h).template h;
        pc = window_is work h plain ∙ omega arith;
        handler = ap (λ (file : CsrFile). file.mtvec) file_is;
        aligned = ap (λ (file : CsrFile). file.mepc % 4) file_is ∙ omega arith;
      };
      behind = omega arith;
      ahead = record { room = omega (arith, room); makeable = hart.requests };
    }

pub led : (work : Work) (seed h : ℕ) (events : List Event) (s : HartState) → IsMember work h → RunsTo work seed h events s → IsLed h s
led work seed h events s is run = led_from work h (start work seed h) s events is (rests 0 0 (script work h) (start_between work seed h is)) run
