-- What the harts' logs bring to the program is what their lines tell.
use Rattle.std.proofs.Common.{ℕ, ◌<◌, ◌≤◌, ◌≡◌, Bool, true, false, cond, eqb, eq-eqb, List, [], ◌∷◌, length, map, filter, Option, Some, None, inl, inr, refl, sym, ap, subst, ◌∙◌, arith}
use Rattle.std.specs.Prelude.{option_map, slice_get, unwrap_or}
use Rattle.std.specs.List.{AllByRecursion, Contains, filter_map}
use Rattle.std.specs.Option.{option_map_or}
use Rattle.std.proofs.lemmas.List.{length-map}
use Rattle.std.proofs.lemmas.List.Elements.{Contains-append_cases, Contains-append_right}
use Rattle.std.proofs.lemmas.Option.{slice_get-map, slice_get_within}
use Rattle.rv_fields.specs.Effect.{Effect}
use Rattle.rv_fields.proofs.Lists.{in_one}
use Rattle.region_plan.specs.Plan.{Work, hart_count}
use Rattle.region_plan.specs.Rules.{KeepsRules}
use Rattle.trace_text.specs.Lines.{Line, done, ending, fixed, found, given, hart_of, lines_of, made, picked, refused, request, settled, starting, touched, weighed}
use Rattle.world_face.specs.Events.{Event}
use Rattle.hart_task.specs.Blocks.{made_by}
use Rattle.hart_task.specs.Log.{LogSeen, events_of}
use Rattle.hart_task.specs.Logs.{AreLogsOf}
use Rattle.hart_task.specs.OneRun.{all_lines}
use Rattle.hart_task.specs.Task.{IsLogOf}
use Rattle.hart_task.proofs.Words.{AreWordsOf, IsMadeWord, IsTold, made_of, words_of_run}
use Rattle.run_merge.specs.Image.{AreImagesOf, AreMadeBy, HartImage, initial_in}
use Rattle.run_merge.specs.Run.{log_image}
use Rattle.run_merge.proofs.Merged.{all_own, hart_lines, log_at, log_events, starting_is}

-- ---- members of lists

first_of : {A : Type 0} (x y : A) (xs : List A) → x ≡ y → Contains (x ∷ xs) y
first_of x y xs same = (0, omega arith, same)

in_kept : {A : Type 0} (p : A → Bool) (xs : List A) (y : A) → p y ≡ true → Contains xs y → Contains (filter p xs) y
in_kept p [] y passes c = c
in_kept {A} p (x ∷ xs) y passes c = elim (Contains-append_cases (x ∷ []) xs y c) as (λ _. Contains (filter p (x ∷ xs)) y) [
  | inl here ↦ this (p x) (ap p (in_one x y here) ∙ passes) (in_one x y here)
  | inr behind ↦ later (p x) (in_kept p xs y passes behind)
]
  where
    this : (t : Bool) → t ≡ true → x ≡ y → Contains (cond t (x ∷ filter p xs) (filter p xs)) y
    this true e same = first_of x y (filter p xs) same
    this false e same = absurd cc

    later : (t : Bool) → Contains (filter p xs) y → Contains (cond t (x ∷ filter p xs) (filter p xs)) y
    later true c = Contains-append_right (x ∷ []) (filter p xs) y c
    later false c = c

in_all : {A : Type 0} (p : A → Bool) (xs : List A) (y : A) → Contains (filter p xs) y → Contains xs y
in_all p [] y c = c
in_all {A} p (x ∷ xs) y c = of (p x) (in_all p xs y) c
  where
    of : (t : Bool) → (Contains (filter p xs) y → Contains xs y) → Contains (cond t (x ∷ filter p xs) (filter p xs)) y → Contains (x ∷ xs) y
    of true more c = elim (Contains-append_cases (x ∷ []) (filter p xs) y c) as (λ _. Contains (x ∷ xs) y) [
      | inl here ↦ first_of x y xs (in_one x y here)
      | inr behind ↦ Contains-append_right (x ∷ []) xs y (more behind)
    ]
    of false more c = Contains-append_right (x ∷ []) xs y (more c)

-- ---- the words that a hart's lines make

step_by_hart : (h : ℕ) (e : Effect) (l : Line) (ls : List Line) (es : List Effect) → filter (λ (x : Effect). eqb x.hart h) es ≡ made_of (lines_of h ls)
    → (t : Bool) → cond t (e ∷ filter (λ (x : Effect). eqb x.hart h) es) (filter (λ (x : Effect). eqb x.hart h) es) ≡ cond t (e ∷ made_of (lines_of h ls)) (made_of (lines_of h ls))
step_by_hart h e l ls es more true = ap (λ q. e ∷ q) more
step_by_hart h e l ls es more false = more

made_if : (l : Line) (ls : List Line) (t : Bool) → made_of (cond t (l ∷ ls) ls) ≡ cond t (made_of (l ∷ ls)) (made_of ls)
made_if l ls true = refl
made_if l ls false = refl

either : {A : Type 0} (t : Bool) (x : A) → x ≡ cond t x x
either true x = refl
either false x = refl

made_by_hart : (h : ℕ) (lines : List Line) → filter (λ (e : Effect). eqb e.hart h) (filter_map made_by lines) ≡ made_of (lines_of h lines)
made_by_hart h [] = refl
made_by_hart h (request hart k kind ∷ ls) = made_by_hart h ls ∙ either (eqb hart h) (made_of (lines_of h ls)) ∙ sym (made_if (request hart k kind) (lines_of h ls) (eqb hart h))
made_by_hart h (picked hart tree leaf word ∷ ls) = made_by_hart h ls ∙ either (eqb hart h) (made_of (lines_of h ls)) ∙ sym (made_if (picked hart tree leaf word) (lines_of h ls) (eqb hart h))
made_by_hart h (weighed hart tree path weight ∷ ls) = made_by_hart h ls ∙ either (eqb hart h) (made_of (lines_of h ls)) ∙ sym (made_if (weighed hart tree path weight) (lines_of h ls) (eqb hart h))
made_by_hart h (fixed hart register value ∷ ls) = made_by_hart h ls ∙ either (eqb hart h) (made_of (lines_of h ls)) ∙ sym (made_if (fixed hart register value) (lines_of h ls) (eqb hart h))
made_by_hart h (given hart object page frame ∷ ls) = made_by_hart h ls ∙ either (eqb hart h) (made_of (lines_of h ls)) ∙ sym (made_if (given hart object page frame) (lines_of h ls) (eqb hart h))
made_by_hart h (settled hart space e ∷ ls) = made_by_hart h ls ∙ either (eqb hart h) (made_of (lines_of h ls)) ∙ sym (made_if (settled hart space e) (lines_of h ls) (eqb hart h))
made_by_hart h (touched hart at bytes ∷ ls) = made_by_hart h ls ∙ either (eqb hart h) (made_of (lines_of h ls)) ∙ sym (made_if (touched hart at bytes) (lines_of h ls) (eqb hart h))
made_by_hart h (made e ∷ ls) = step_by_hart h e (made e) ls (filter_map made_by ls) (made_by_hart h ls) (eqb e.hart h) ∙ sym (made_if (made e) (lines_of h ls) (eqb e.hart h))
made_by_hart h (found e ∷ ls) = made_by_hart h ls ∙ either (eqb e.hart h) (made_of (lines_of h ls)) ∙ sym (made_if (found e) (lines_of h ls) (eqb e.hart h))
made_by_hart h (ending e ∷ ls) = step_by_hart h e (ending e) ls (filter_map made_by ls) (made_by_hart h ls) (eqb e.hart h) ∙ sym (made_if (ending e) (lines_of h ls) (eqb e.hart h))
made_by_hart h (done hart k ∷ ls) = made_by_hart h ls ∙ either (eqb hart h) (made_of (lines_of h ls)) ∙ sym (made_if (done hart k) (lines_of h ls) (eqb hart h))
made_by_hart h (refused hart k cause preamble ∷ ls) = made_by_hart h ls ∙ either (eqb hart h) (made_of (lines_of h ls)) ∙ sym (made_if (refused hart k cause preamble) (lines_of h ls) (eqb hart h))

made_there : (h : ℕ) (lines : List Line) (e : Effect) → e.hart ≡ h → Contains (filter_map made_by lines) e → Contains (made_of (lines_of h lines)) e
made_there h lines e hart c =
    subst (λ es. Contains es e) (made_by_hart h lines) (in_kept (λ (x : Effect). eqb x.hart h) (filter_map made_by lines) e (eq-eqb e.hart h hart) c)

made_back : (h : ℕ) (lines : List Line) (e : Effect) → Contains (made_of (lines_of h lines)) e → Contains (filter_map made_by lines) e
made_back h lines e c =
    in_all (λ (x : Effect). eqb x.hart h) (filter_map made_by lines) e (subst (λ es. Contains es e) (sym (made_by_hart h lines)) c)

words_made : (h : ℕ) (lines : List Line) (words : List ℕ) → AreWordsOf h (lines_of h lines) (λ index. slice_get words index) → AreMadeBy lines h words
words_made h lines words are = record {
  at_places = λ e c hart.
      let m : IsMadeWord h (λ index. slice_get words index) e = are.each e (made_there h lines e hart c) in
      (m.index, ap (λ o. unwrap_or o 0) m.pa, m.stands ∙ ap (λ o. Some (unwrap_or o 0)) (sym m.has));
  no_others = λ index word is.
      let t : IsTold h (made_of (lines_of h lines)) index word = are.others index word is in
      (t.e, made_back h lines t.e t.among, t.hart, ap (λ o. unwrap_or o 0) t.pa, ap (λ o. unwrap_or o 0) t.has);
}

-- ---- members

made_members : (n : ℕ) (P : Line → Type 0) (ls : List Line) → AllByRecursion (λ (l : Line). (hart_of l < n) × P l) ls → AllByRecursion (λ (e : Effect). e.hart < n) (filter_map made_by ls)
made_members n P [] all = tt
made_members n P (request hart k kind ∷ ls) all = made_members n P ls all.1
made_members n P (picked hart tree leaf word ∷ ls) all = made_members n P ls all.1
made_members n P (weighed hart tree path weight ∷ ls) all = made_members n P ls all.1
made_members n P (fixed hart register value ∷ ls) all = made_members n P ls all.1
made_members n P (given hart object page frame ∷ ls) all = made_members n P ls all.1
made_members n P (settled hart space e ∷ ls) all = made_members n P ls all.1
made_members n P (touched hart at bytes ∷ ls) all = made_members n P ls all.1
made_members n P (made e ∷ ls) all = (all.0.0, made_members n P ls all.1)
made_members n P (found e ∷ ls) all = made_members n P ls all.1
made_members n P (ending e ∷ ls) all = (all.0.0, made_members n P ls all.1)
made_members n P (done hart k ∷ ls) all = made_members n P ls all.1
made_members n P (refused hart k cause preamble ∷ ls) all = made_members n P ls all.1

-- ---- the images

some_log : (m : Option LogSeen) (i : HartImage) → option_map log_image m ≡ Some i → (log : LogSeen) × (m ≡ Some log) × (log_image log ≡ i)
some_log None i is = absurd cc
some_log (Some log) i is = (log, refl, cc)

-- the log of a hart's image
log_under : (logs : List LogSeen) (h : ℕ) (i : HartImage) → slice_get (map log_image logs) h ≡ Some i → (log : LogSeen) × (slice_get logs h ≡ Some log) × (log_image log ≡ i)
log_under logs h i is = some_log (slice_get logs h) i (sym (slice_get-map log_image logs h) ∙ is)

-- What the harts' logs bring is what the lines tell of them.
pub images_are : (work : Work) (seed : ℕ) (logs : List LogSeen) (events : List Event) → KeepsRules work → AreLogsOf work seed logs events
    → AreImagesOf work (all_lines events) (map log_image logs)
images_are work seed logs events keeps are = record {
  count = length-map logs log_image ∙ are.count;
  members = made_members (hart_count work) _ (all_lines events) (all_own work seed logs events are);
  initial = initial;
  words = λ h i is. let at = log_under logs h i is in subst (λ (q : HartImage). AreMadeBy (all_lines events) h q.words) at.2 (words h at.0 at.1);
  room = λ h i is. let at = log_under logs h i is in subst (λ (q : HartImage). length q.words ≤ 1024) at.2 (are.logs_are h at.0 at.1).room;
}
  where
    initial : (h r : ℕ) → h < hart_count work → initial_in (map log_image logs) h r ≡ starting (all_lines events) h r
    initial h r small =
        let log = log_at work seed logs events are h small in
        ap (λ o. option_map_or (λ (i : HartImage). i.initial) o (λ r. None) r) (slice_get-map log_image logs h ∙ ap (option_map log_image) log.1)
        ∙ (are.logs_are h log.0 log.1).values r
        ∙ ap (λ es. starting (all_lines es) h r) (log_events work seed logs events are h log.0 log.1)
        ∙ starting_is work seed logs events are h r small

    words : (h : ℕ) (log : LogSeen) → slice_get logs h ≡ Some log → AreMadeBy (all_lines events) h log.words
    words h log is =
        let log_is : IsLogOf work seed h log = are.logs_are h log is in
        let small : h < hart_count work = omega (arith, are.count, slice_get_within logs h log is) in
        let own : all_lines (events_of log.events) ≡ lines_of h (all_lines events) =
        ap all_lines (log_events work seed logs events are h log is) ∙ sym (hart_lines work seed logs events are h small) in
        words_made h (all_lines events) log.words
        (subst (λ ls. AreWordsOf h ls (λ index. slice_get log.words index)) own
        (subst (AreWordsOf h (all_lines (events_of log.events))) log_is.words
        (words_of_run work seed h (events_of log.events) log_is.run.end log_is.run.run)))
