-- The slots that the logs of all harts fill are the events of their run, hart by hart.
use Rattle.std.proofs.Common.{ℕ, suc, ◌+◌, ◌<◌, ◌≤◌, ◌≡◌, Bool, true, false, List, [], ◌∷◌, ◌++◌, length, map, replicate, set, Option, Some, None, cond, nat_lt, refl, sym, ap, subst, ◌∙◌, arith, append_assoc, length-append}
use Rattle.std.specs.Prelude.{slice_get}
use Rattle.std.specs.List.{AllByRecursion}
use Rattle.std.proofs.lemmas.Bool.Decides.{nat_tests}
use Rattle.std.proofs.Math.Seq.{set-append_seam}
use Rattle.world_face.specs.Events.{Event, Placed, is_of_hart}
use Rattle.hart_task.specs.Log.{LogSeen}
use Rattle.hart_task.specs.Logs.{numbered, of_hart}
use Rattle.hart_task.specs.OneRun.{all_lines}
use Rattle.run_merge.specs.Slots.{FitIn, all_slotted, event_count, slots_lines, slotted}

-- the event, where its hart is below one
abbrev pub below : ℕ → Event → Option Event
below k e = cond (nat_lt e.hart k) (Some e) None

abbrev placed_at : ℕ → Event → Placed
placed_at place e = record { place = place; event = e }

below_self : (k : ℕ) (e : Event) → is_of_hart k e ≡ true → Some e ≡ below (suc k) e
below_self k e is = grind (arith, nat_tests)

below_other : (k : ℕ) (e : Event) → is_of_hart k e ≡ false → below k e ≡ below (suc k) e
below_other k e is = grind (arith, nat_tests)

below_none : (events : List Event) → map (below 0) events ≡ replicate (length events) None
below_none [] = refl
below_none (e ∷ es) =
    let here : below 0 e ≡ None = grind (arith, nat_tests) in
    ap (λ o. o ∷ map (below 0) es) here ∙ ap (λ os. None ∷ os) (below_none es)

below_all : (n : ℕ) (events : List Event) → AllByRecursion (λ (e : Event). e.hart < n) events → map (below n) events ≡ map Some events
below_all n [] all = refl
below_all n (e ∷ es) all =
    let here : below n e ≡ Some e = grind (arith, nat_tests, all.0) in
    ap (λ o. o ∷ map (below n) es) here ∙ ap (λ os. Some e ∷ os) (below_all n es all.1)

-- one slot of an event, of the hart or not
slotted_one : (k place : ℕ) (before left : List (Option Event)) (e : Event) (rest : List Placed) (mine : Bool) → is_of_hart k e ≡ mine → length before ≡ place
    → slotted (cond mine (placed_at place e ∷ rest) rest) (before ++ below k e ∷ left) ≡ slotted rest (before ++ below (suc k) e ∷ left)
slotted_one k place before left e rest true is at =
    ap (λ n. slotted rest (set (before ++ below k e ∷ left) n (Some e))) (sym at)
    ∙ ap (slotted rest) (set-append_seam before (below k e) left (Some e))
    ∙ ap (λ o. slotted rest (before ++ o ∷ left)) (below_self k e is)
slotted_one k place before left e rest false is at = ap (λ o. slotted rest (before ++ o ∷ left)) (below_other k e is)

-- the log of a hart fills the slots of its events
slotted_hart : (k place : ℕ) (before : List (Option Event)) (events : List Event) → length before ≡ place
    → slotted (of_hart k (numbered place events)) (before ++ map (below k) events) ≡ before ++ map (below (suc k)) events
slotted_hart k place before [] at = refl
slotted_hart k place before (e ∷ es) at =
    let more : List (Option Event) = before ++ below (suc k) e ∷ [] in
    let rest : List Placed = of_hart k (numbered (place + 1) es) in
    slotted_one k place before (map (below k) es) e rest (is_of_hart k e) refl at
    ∙ ap (slotted rest) (sym (append_assoc before (below (suc k) e ∷ []) (map (below k) es)))
    ∙ slotted_hart k (place + 1) more es (length-append before (below (suc k) e ∷ []) ∙ ap (λ n. n + 1) at)
    ∙ append_assoc before (below (suc k) e ∷ []) (map (below (suc k)) es)

-- the logs are those of the harts from one on
abbrev pub AreFrom : ℕ → List Event → List LogSeen → Type 0
AreFrom k events [] = Unit {0}
AreFrom k events (log ∷ logs) = (log.events ≡ of_hart k (numbered 0 events)) × AreFrom (suc k) events logs

are_from : (k : ℕ) (events : List Event) (logs : List LogSeen)
    → ((h : ℕ) (log : LogSeen) → slice_get logs h ≡ Some log → log.events ≡ of_hart (k + h) (numbered 0 events)) → AreFrom k events logs
are_from k events [] by_place = tt
are_from k events (log ∷ logs) by_place = (
  by_place 0 log refl ∙ ap (λ n. of_hart n (numbered 0 events)) (omega arith),
  are_from (suc k) events logs (λ h l at. by_place (suc h) l at ∙ ap (λ n. of_hart n (numbered 0 events)) (omega arith)),
)

pub are_all : (events : List Event) (logs : List LogSeen)
    → ((h : ℕ) (log : LogSeen) → slice_get logs h ≡ Some log → log.events ≡ of_hart h (numbered 0 events)) → AreFrom 0 events logs
are_all events logs by_place = are_from 0 events logs (λ h l at. by_place h l at ∙ ap (λ n. of_hart n (numbered 0 events)) (omega arith))

slotted_from : (k : ℕ) (events : List Event) (logs : List LogSeen) → AreFrom k events logs
    → all_slotted logs (map (below k) events) ≡ map (below (length logs + k)) events
slotted_from k events [] are = ap (λ n. map (below n) events) (omega arith)
slotted_from k events (log ∷ logs) are =
    ap (λ ps. all_slotted logs (slotted ps (map (below k) events))) are.0
    ∙ ap (all_slotted logs) (slotted_hart k 0 [] events refl)
    ∙ slotted_from (suc k) events logs are.1
    ∙ ap (λ n. map (below n) events) (omega arith)

-- as many slots as there are events, once all logs have filled them
pub slotted_all : (n : ℕ) (events : List Event) (logs : List LogSeen) → length logs ≡ n → AreFrom 0 events logs → AllByRecursion (λ (e : Event). e.hart < n) events
    → all_slotted logs (replicate (length events) None) ≡ map Some events
slotted_all n events logs count are members =
    ap (all_slotted logs) (sym (below_none events))
    ∙ slotted_from 0 events logs are
    ∙ ap (λ m. map (below m) events) (omega (arith, count))
    ∙ below_all n events members

pub lines_slotted : (events : List Event) → slots_lines (map Some events) ≡ all_lines events
lines_slotted [] = refl
lines_slotted (e ∷ es) = ap (λ ls. e.lines ++ ls) (lines_slotted es)

-- ---- how many events there are

-- how many are of a hart below one
abbrev many_below : ℕ → List Event → ℕ
many_below k [] = 0
many_below k (e ∷ es) = cond (nat_lt e.hart k) 1 0 + many_below k es

none_below : (events : List Event) → many_below 0 events ≡ 0
none_below [] = refl
none_below (e ∷ es) =
    let here : nat_lt e.hart 0 ≡ false = grind (arith, nat_tests) in
    let later : many_below 0 es ≡ 0 = none_below es in
    ap (λ b. cond b 1 0 + many_below 0 es) here ∙ omega (arith, later)

all_below : (n : ℕ) (events : List Event) → AllByRecursion (λ (e : Event). e.hart < n) events → many_below n events ≡ length events
all_below n [] all = refl
all_below n (e ∷ es) all =
    let rest : many_below n es ≡ length es = all_below n es all.1 in
    let here : nat_lt e.hart n ≡ true = grind (arith, nat_tests, all.0) in
    ap (λ b. cond b 1 0 + many_below n es) here ∙ omega (arith, rest)

many_one : (k : ℕ) (e : Event) (p : Placed) (rest : List Placed)
    → length (cond (is_of_hart k e) (p ∷ rest) rest) + cond (nat_lt e.hart k) 1 0 ≡ length rest + cond (nat_lt e.hart (suc k)) 1 0
many_one k e p rest = grind (arith, nat_tests)

many_more : (k place : ℕ) (events : List Event) → length (of_hart k (numbered place events)) + many_below k events ≡ many_below (suc k) events
many_more k place [] = refl
many_more k place (e ∷ es) =
    let rest : List Placed = of_hart k (numbered (place + 1) es) in
    let here = many_one k e (placed_at place e) rest in
    let later = many_more k (place + 1) es in
    omega (arith, here, later)

count_from : (k : ℕ) (events : List Event) (logs : List LogSeen) → AreFrom k events logs
    → event_count logs + many_below k events ≡ many_below (length logs + k) events
count_from k events [] are =
    let same : many_below k events ≡ many_below (0 + k) events = ap (λ n. many_below n events) (omega arith) in
    omega (arith, same)
count_from k events (log ∷ logs) are =
    let here : length log.events + many_below k events ≡ many_below (suc k) events = ap (λ (ps : List Placed). length ps + many_below k events) are.0 ∙ many_more k 0 events in
    let later : event_count logs + many_below (suc k) events ≡ many_below (length logs + suc k) events = count_from (suc k) events logs are.1 in
    let same : many_below (length logs + suc k) events ≡ many_below (suc (length logs) + k) events = ap (λ n. many_below n events) (omega arith) in
    omega (arith, here, later, same)

-- the logs have as many events as their run
pub count_all : (n : ℕ) (events : List Event) (logs : List LogSeen) → length logs ≡ n → AreFrom 0 events logs → AllByRecursion (λ (e : Event). e.hart < n) events
    → event_count logs ≡ length events
count_all n events logs count are members =
    let whole : event_count logs + many_below 0 events ≡ many_below (length logs + 0) events = count_from 0 events logs are in
    let same : many_below (length logs + 0) events ≡ many_below n events = ap (λ m. many_below m events) (omega (arith, count)) in
    omega (arith, whole, same, none_below events, all_below n events members)

-- ---- each event fits

fit_one : (k count place : ℕ) (e : Event) (rest : List Placed) (mine : Bool) → place < count → FitIn count rest → FitIn count (cond mine (placed_at place e ∷ rest) rest)
fit_one k count place e rest true small fit = (small, fit)
fit_one k count place e rest false small fit = fit

fit_hart : (k count place : ℕ) (events : List Event) → place + length events ≤ count → FitIn count (of_hart k (numbered place events))
fit_hart k count place [] small = tt
fit_hart k count place (e ∷ es) small =
    fit_one k count place e (of_hart k (numbered (place + 1) es)) (is_of_hart k e) (omega (arith, small)) (fit_hart k count (place + 1) es (omega (arith, small)))

fit_from : (k count : ℕ) (events : List Event) (logs : List LogSeen) → length events ≤ count → AreFrom k events logs
    → AllByRecursion (λ (log : LogSeen). FitIn count log.events) logs
fit_from k count events [] small are = tt
fit_from k count events (log ∷ logs) small are = (
  subst (FitIn count) (sym are.0) (fit_hart k count 0 events (omega (arith, small))),
  fit_from (suc k) count events logs small are.1,
)

pub fit_all : (count : ℕ) (events : List Event) (logs : List LogSeen) → length events ≤ count → AreFrom 0 events logs
    → AllByRecursion (λ (log : LogSeen). FitIn count log.events) logs
fit_all count events logs small are = fit_from 0 count events logs small are
