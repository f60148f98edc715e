-- The order of a run is in the ranges that an order can spell.
use Rattle.std.proofs.Common.{ℕ, zero, suc, ◌+◌, ◌*◌, ◌<◌, ◌≤◌, ◌≡◌, Bool, true, false, cond, eqb, eqb-true, eq-eqb, ne_eqb, List, [], ◌∷◌, filter, length, replicate, Option, Some, None, refl, sym, ap, subst, ◌∙◌, arith}
use Rattle.std.specs.Prelude.{is_some}
use Rattle.std.specs.List.{AllByRecursion}
use Rattle.std.proofs.lemmas.List.{length-append, length-map}
use Rattle.std.proofs.lemmas.List.Elements.{All-from_recursion, filter_map-append}
use Rattle.rv_fields.specs.Effect.{Effect}
use Rattle.region_plan.specs.Plan.{Work, hart_count}
use Rattle.trace_text.specs.Lines.{Line, made, found, ending, effect_of, effects_of}
use Rattle.trace_text.specs.Orders.{IsOrder}
use Rattle.trace_text.specs.Traces.{IsLine, IsTrace}
use Rattle.world_face.specs.Events.{Event, Placed, is_of_hart}
use Rattle.world_face.specs.Runs.{Runs}
use Rattle.hart_task.specs.Acts.{Act, answers, begins, event_of, gives_up, refuses, steps}
use Rattle.hart_task.specs.Heard.{Heard, heard_of}
use Rattle.hart_task.specs.OneRun.{all_lines}
use Rattle.hart_task.specs.State.{HartState, start}
use Rattle.hart_task.specs.Turn.{Turned, acted, acts, is_of, turned}
use Rattle.region_plan.specs.Rules.{KeepsRules}
use Rattle.hart_task.specs.Log.{LogSeen}
use Rattle.hart_task.specs.Logs.{AreLogsOf}
use Rattle.hart_task.specs.Task.{most_events}
use Rattle.trace_fields.proofs.Joins.{all_append}
use Rattle.hart_task.proofs.Lined.{answers_effects, begins_effects, refuses_effects, step_effects, told_silent}
use Rattle.hart_task.proofs.Viewed.{View, turned_view}
use Rattle.run_merge.specs.Justified.{order_of}
use Rattle.run_merge.proofs.Merged.{hart_run, log_at, log_events, trace_is}
use Rattle.boot_words.specs.Booting.{boot_steps}
use Rattle.boot_words.specs.Passing.{boots_from}
use Rattle.run_merge.specs.Order.{whole_order}

-- ---- an event steps once at most

abbrev pub StepsOnce : Event → Type 0
StepsOnce e = length (effects_of e.lines) ≤ 1

act_once : (work : Work) (s : HartState) (heard : Heard) (h : ℕ) (a : Act) (u : HartState) → View work s heard a u → effects_of heard.told ≡ [] → StepsOnce (event_of work h a)
act_once work s heard h (refuses b cause) u view silent = let none = ap length (refuses_effects work h b cause) in omega (arith, none)
act_once work s heard h (answers b fixing) u view silent = let none = ap length (answers_effects work h b fixing) in omega (arith, none)
act_once work s heard h (begins b fixing told) u view silent =
    let none = ap length (begins_effects work h b fixing told (ap effects_of view.1 ∙ quiet (is_some b.settle))) in omega (arith, none)
  where
    quiet : (t : Bool) → effects_of (cond t heard.told []) ≡ []
    quiet true = silent
    quiet false = refl
act_once work s heard h (steps x) u view silent = let one = ap length (step_effects work h x) in omega (arith, one)
act_once work s heard h (gives_up k preamble wanted) u view silent = omega arith

acts_once : (work : Work) (s : HartState) (e : Event) → acts work s e → StepsOnce e
acts_once work s e ok = of (turned work s (heard_of e)) refl ok
  where
    of : (o : Option Turned) → o ≡ turned work s (heard_of e) → is_of work s.hart.number e o → StepsOnce e
    of None is ok = absurd ok
    of (Some t) is ok = subst StepsOnce (sym ok) (act_once work s (heard_of e) s.hart.number t.act t.state (turned_view work s (heard_of e) t (sym is)) (told_silent e))

pub run_once : (work : Work) (s end : HartState) (es : List Event) → Runs (acts work) (acted work) s es end → AllByRecursion StepsOnce es
run_once work s end [] run = tt
run_once work s end (e ∷ es) run = (acts_once work s e run.0, run_once work (acted work s e) end es run.1)

-- ---- what holds of each hart's events holds of all

pub of_all : (P : Event → Type 0) (n : ℕ) (es : List Event) → AllByRecursion (λ (e : Event). e.hart < n) es
    → ((h : ℕ) → h < n → AllByRecursion P (filter (is_of_hart h) es)) → AllByRecursion P es
of_all P n [] members each = tt
of_all P n (e ∷ es) members each = (first (eqb e.hart e.hart) (eq-eqb e.hart e.hart refl) (each e.hart members.0), of_all P n es members.1 (λ h small. rest (eqb e.hart h) h (each h small)))
  where
    first : (t : Bool) → t ≡ true → AllByRecursion P (cond t (e ∷ filter (is_of_hart e.hart) es) (filter (is_of_hart e.hart) es)) → P e
    first true is all = all.0
    first false is all = absurd cc

    rest : (t : Bool) (h : ℕ) → AllByRecursion P (cond t (e ∷ filter (is_of_hart h) es) (filter (is_of_hart h) es)) → AllByRecursion P (filter (is_of_hart h) es)
    rest true h all = all.1
    rest false h all = all

-- ---- how many there are

abbrev total : ℕ → (ℕ → ℕ) → ℕ
total zero f = 0
total (suc n) f = f n + total n f

-- a place that is past all counts for nothing, and one among them once
past_all : (n k : ℕ) (f : ℕ → ℕ) → n ≤ k → total n (λ h. cond (eqb k h) (f h + 1) (f h)) ≡ total n f
past_all zero k f past = refl
past_all (suc n) k f past =
    let other : eqb k n ≡ false = ne_eqb k n (λ same. omega (arith, past, same)) in
    let before = past_all n k f (omega (arith, past)) in
    ap (λ t. cond t (f n + 1) (f n) + total n (λ h. cond (eqb k h) (f h + 1) (f h))) other ∙ ap (λ m. f n + m) before

one_more : (n k : ℕ) (f : ℕ → ℕ) → k < n → total n (λ h. cond (eqb k h) (f h + 1) (f h)) ≡ total n f + 1
one_more zero k f small = absurd (omega (arith, small))
one_more (suc n) k f small = of (eqb k n) refl (one_more n k f)
  where
    below : ¬ (k ≡ n) → k < n
    below other = omega (arith, small, other)

    of : (t : Bool) → t ≡ eqb k n → (k < n → total n (λ h. cond (eqb k h) (f h + 1) (f h)) ≡ total n f + 1)
        → cond (eqb k n) (f n + 1) (f n) + total n (λ h. cond (eqb k h) (f h + 1) (f h)) ≡ f n + total n f + 1
    of true is more =
        let same : k ≡ n = eqb-true k n (sym is) in
        let before = past_all n k f (omega (arith, same)) in
        ap (λ t. cond t (f n + 1) (f n) + total n (λ h. cond (eqb k h) (f h + 1) (f h))) (sym is) ∙ (let sum : f n + 1 + total n (λ h. cond (eqb k h) (f h + 1) (f h)) ≡ f n + total n f + 1 = omega (arith, before) in sum)
    of false is more =
        let less : k < n = below (λ same. let yes : eqb k n ≡ true = eq-eqb k n same in absurd cc) in
        let before = more less in
        ap (λ t. cond t (f n + 1) (f n) + total n (λ h. cond (eqb k h) (f h + 1) (f h))) (sym is) ∙ (let sum : f n + total n (λ h. cond (eqb k h) (f h + 1) (f h)) ≡ f n + total n f + 1 = omega (arith, before) in sum)

-- every event is of one of the harts
counted : (n : ℕ) (es : List Event) → AllByRecursion (λ (e : Event). e.hart < n) es → length es ≤ total n (λ h. length (filter (is_of_hart h) es))
counted n [] members = omega arith
counted n (e ∷ es) members =
    let rest = counted n es members.1 in
    let more : total n (λ h. length (filter (is_of_hart h) (e ∷ es))) ≡ total n (λ h. length (filter (is_of_hart h) es)) + 1 =
    ap (total n) (λ i. λ h. lengths (eqb e.hart h) h i) ∙ one_more n e.hart (λ h. length (filter (is_of_hart h) es)) members.0 in
    omega (arith, rest, more)
  where
    lengths : (t : Bool) (h : ℕ) → length (cond t (e ∷ filter (is_of_hart h) es) (filter (is_of_hart h) es)) ≡ cond t (length (filter (is_of_hart h) es) + 1) (length (filter (is_of_hart h) es))
    lengths true h = omega arith
    lengths false h = refl

total_below : (n most : ℕ) (f : ℕ → ℕ) → ((h : ℕ) → h < n → f h ≤ most) → total n f ≤ n * most
total_below zero most f small = omega arith
total_below (suc n) most f small =
    let here = small n (omega arith) in
    let rest = total_below n most f (λ h less. small h (omega (arith, less))) in
    omega (arith, here, rest)

pub few_events : (n most : ℕ) (es : List Event) → AllByRecursion (λ (e : Event). e.hart < n) es → ((h : ℕ) → h < n → length (filter (is_of_hart h) es) ≤ most) → length es ≤ n * most
few_events n most es members small =
    let all = counted n es members in
    let below = total_below n most (λ h. length (filter (is_of_hart h) es)) small in
    omega (arith, all, below)

steps_below : (es : List Event) → AllByRecursion StepsOnce es → length (effects_of (all_lines es)) ≤ length es
steps_below [] once = omega arith
steps_below (e ∷ es) once =
    let rest = steps_below es once.1 in
    let both = ap length (filter_map-append effect_of e.lines (all_lines es)) ∙ length-append (effects_of e.lines) (effects_of (all_lines es)) in
    omega (arith, once.0, rest, both)

-- ---- the order

boots_named : (h n : ℕ) (most : ℕ) → h + n ≤ most → AllByRecursion (λ k. k < most) (boots_from h n)
boots_named h zero most small = tt
boots_named h (suc n) most small = all_append (λ k. k < most) (replicate boot_steps h) (boots_from (h + 1) n) (same boot_steps (omega (arith, small))) (boots_named (h + 1) n most (omega (arith, small)))
  where
    same : (m : ℕ) → h < most → AllByRecursion (λ k. k < most) (replicate m h)
    same zero less = tt
    same (suc m) less = (less, same m less)

boots_long : (h n : ℕ) → length (boots_from h n) ≡ n * boot_steps
boots_long h zero = refl
boots_long h (suc n) =
    let both = length-append (replicate boot_steps h) (boots_from (h + 1) n) in
    let rest = boots_long (h + 1) n in
    let here : length (replicate boot_steps h) ≡ boot_steps = refl in
    omega (arith, both, rest, here)

steps_named : (harts : ℕ) (ls : List Line) → AllByRecursion (IsLine harts) ls → AllByRecursion (λ k. k < harts) (order_of (effects_of ls))
steps_named harts [] all = tt
steps_named harts (made e ∷ ls) all = (all.0.hart, steps_named harts ls all.1)
steps_named harts (found e ∷ ls) all = (all.0.hart, steps_named harts ls all.1)
steps_named harts (ending e ∷ ls) all = (all.0.hart, steps_named harts ls all.1)
steps_named harts (other ∷ ls) all = steps_named harts ls all.1

pub order_ranges : (work : Work) (es : List Event) → IsTrace (hart_count work) (all_lines es) → AllByRecursion StepsOnce es → length es ≤ hart_count work * most_events
    → IsOrder (hart_count work) (whole_order (hart_count work) (effects_of (all_lines es)))
order_ranges work es trace once few =
    let harts : ℕ = hart_count work in
    let steps = steps_below es once in
    let long = length-append (boots_from 0 harts) (order_of (effects_of (all_lines es))) in
    let boots = boots_long 0 harts in
    let same = length-map (effects_of (all_lines es)) (λ (e : Effect). e.hart) in
    record {
      some = trace.some;
      most = trace.most;
      named = All-from_recursion (λ k. k < harts) (whole_order harts (effects_of (all_lines es)))
          (all_append (λ k. k < harts) (boots_from 0 harts) (order_of (effects_of (all_lines es))) (boots_named 0 harts harts (omega arith)) (steps_named harts (all_lines es) trace.are_lines));
      short = omega (arith, steps, long, boots, same, few, trace.most);
    }

-- ---- the order of a run

logs_short : (work : Work) (seed : ℕ) (logs : List LogSeen) (events : List Event) → AreLogsOf work seed logs events → (h : ℕ) → h < hart_count work
    → length (filter (is_of_hart h) events) ≤ most_events
logs_short work seed logs events are h small =
    let log = log_at work seed logs events are h small in
    let own = are.logs_are h log.0 log.1 in
    let same = ap length (log_events work seed logs events are h log.0 log.1) in
    let as_many = length-map log.0.events (λ (p : Placed). p.event) in
    omega (arith, same, as_many, own.few)

all_once : (work : Work) (seed : ℕ) (logs : List LogSeen) (events : List Event) → AreLogsOf work seed logs events → AllByRecursion StepsOnce events
all_once work seed logs events are = of_all StepsOnce (hart_count work) events are.members (λ h small.
    let run = hart_run work seed logs events are h small in
    run_once work (start work seed h) run.end (filter (is_of_hart h) events) run.run)

pub order_of_run : (work : Work) (seed : ℕ) (logs : List LogSeen) (events : List Event) → KeepsRules work → AreLogsOf work seed logs events
    → IsOrder (hart_count work) (whole_order (hart_count work) (effects_of (all_lines events)))
order_of_run work seed logs events keeps are =
    order_ranges work events (trace_is work seed logs events keeps are) (all_once work seed logs events are)
    (few_events (hart_count work) most_events events are.members (logs_short work seed logs events are))

-- its steps are of harts of the job
pub steps_of_run : (work : Work) (seed : ℕ) (logs : List LogSeen) (events : List Event) → KeepsRules work → AreLogsOf work seed logs events
    → AllByRecursion (λ k. k < hart_count work) (order_of (effects_of (all_lines events)))
steps_of_run work seed logs events keeps are = steps_named (hart_count work) (all_lines events) (trace_is work seed logs events keeps are).are_lines
