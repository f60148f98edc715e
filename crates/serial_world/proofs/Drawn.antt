-- A run whose turns are drawn, so far.
use Rattle.std.proofs.Common.{ℕ, ◌+◌, ◌%◌, ◌<◌, ◌≡◌, ◌≢◌, ◌==◌, true, false, List, [], ◌∷◌, ◌++◌, Some, Result, Ok, ap, arith, get_or, length, min, refl, subst, sym, ◌∙◌}
use Rattle.std.specs.List.{range_with_len, remove}
use Rattle.std.specs.Prelude.{slice_get}
use Rattle.std.proofs.lemmas.Bool.{both_ways, eqb-false}
use Rattle.std.proofs.lemmas.List.{length-append}
use Rattle.std.proofs.lemmas.Option.{slice_get_read}
use Rattle.choice_tree.specs.Draws.{Draws, word_of}
use Rattle.region_plan.specs.Plan.{Work, hart_count}
use Rattle.world_face.specs.Events.{Event}
use Rattle.hart_task.specs.declared.log.Turned.{Turned}
use Rattle.hart_task.specs.declared.log.Turned.TheVariants as turned
use Rattle.hart_task.specs.Schedule.{FollowsSeed, has_ended, schedule_stream, unfinished}
use Rattle.serial_world.specs.declared.harts.Harts.{Harts}
use Rattle.serial_world.specs.Running.{AreRunning, Leads, TakesTurn, all_left}
use Rattle.serial_world.proofs.Drawing.{follows_seed_more, none_unfinished, unfinished_at_first, unfinished_goes_on, unfinished_less, unfinished_member, unfinished_same}
use Rattle.serial_world.proofs.Leaving.{AllEnded}

pub record DrawnSoFar (work : Work) (seed : ℕ) (harts : Harts) (left : List ℕ) (draws : Draws) : Type 0 where
  pub events : List Event
  pub running : AreRunning work seed harts events
  pub follows : FollowsSeed (hart_count work) seed [] events
  pub those_left : left ≡ unfinished (hart_count work) events
  pub drawn : draws ≡ record { seed = seed; stream = schedule_stream; drawn = length events }

-- ---- a turn that was drawn

-- the drawn word tells a place in the list, where it isn't empty
pub its_place : (left : List ℕ) (many word count h : ℕ) → (many == 0) ≡ false → many ≡ length left → count ≡ many → h ≡ get_or left (word % count) h → slice_get left (word % count) ≡ Some h
its_place left many word count h some all by read =
    let not_none : many ≢ 0 = eqb-false many 0 some in
    slice_get_read left (length left) (word % count) h refl (omega (arith, not_none, all, by)) read

-- The hart that was drawn goes on, and this is its event.
pub record Drew (work : Work) (seed : ℕ) (new : Harts) (events : List Event) (next : Draws) (h : ℕ) : Type 0 where
  pub event : Event
  pub own : event.hart ≡ h
  pub goes_on : has_ended events h ≡ false
  pub running : AreRunning work seed new (events ++ event ∷ [])
  pub follows : FollowsSeed (hart_count work) seed [] (events ++ event ∷ [])
  pub drawn : next ≡ record { seed = seed; stream = schedule_stream; drawn = length (events ++ event ∷ []) }

-- what the next word is, and what the words are behind it
pub record IsNext (draws next : Draws) (word : ℕ) : Type 0 where
  pub word_is : draws.drawn < 18446744073709551615 → word ≡ word_of draws.seed draws.stream draws.drawn
  pub count : next.drawn ≡ min (draws.drawn + 1) 18446744073709551615
  pub same_seed : next.seed ≡ draws.seed
  pub same_stream : next.stream ≡ draws.stream

pub drawn_at : (work : Work) (seed : ℕ) (old : Harts) (left : List ℕ) (draws : Draws) (index h : ℕ) (so : DrawnSoFar work seed old left draws) → slice_get left index ≡ Some h
    → slice_get (unfinished (hart_count work) so.events) index ≡ Some h
drawn_at work seed old left draws index h so at = subst (λ l. slice_get l index ≡ Some h) so.those_left at

pub its_number : (work : Work) (seed : ℕ) (old : Harts) (left : List ℕ) (draws : Draws) (index h : ℕ) → DrawnSoFar work seed old left draws → slice_get left index ≡ Some h → h < hart_count work
its_number work seed old left draws index h so at = unfinished_member (hart_count work) so.events index h (drawn_at work seed old left draws index h so at)

pub drew : (work : Work) (seed : ℕ) (old new : Harts) (left : List ℕ) (draws next : Draws) (word index h : ℕ) (turn : Turned) (so : DrawnSoFar work seed old left draws) → IsNext draws next word
    → index ≡ word % length left → slice_get left index ≡ Some h → Leads work old new (TakesTurn h turn) → Drew work seed new so.events next h
drew work seed old new left draws next word index h turn so is_next place at leads = of turn (leads seed so.events so.running)
  where
    of : (turn : Turned) → (added : List Event) × AreRunning work seed new (so.events ++ added) × TakesTurn h turn so.events added → Drew work seed new so.events next h
    of turned.Finished l = absurd (both_ways (has_ended so.events h) (unfinished_goes_on (hart_count work) so.events index h (drawn_at work seed old left draws index h so at)) l.2.0)
    of (turned.Event p) l =
        let e : Event = l.2.1.0 in
        let is : l.0 ≡ e ∷ [] = l.2.1.1 in
        let count : draws.drawn ≡ length so.events = ap (λ (d : Draws). d.drawn) so.drawn in
        let few : length so.events < 18446744073709551615 = omega (arith, so.running.room) in
        let told : word ≡ word_of draws.seed draws.stream draws.drawn = is_next.word_is (omega (arith, count, few)) in
        let it : word ≡ word_of seed schedule_stream (length so.events) = told ∙ ap (λ (d : Draws). word_of d.seed d.stream d.drawn) so.drawn in
        let chosen : index ≡ word_of seed schedule_stream (length so.events) % length (unfinished (hart_count work) so.events) =
        place ∙ ap (λ w. w % length left) it ∙ ap (λ (l : List ℕ). word_of seed schedule_stream (length so.events) % length l) so.those_left in
        let there : slice_get (unfinished (hart_count work) so.events) (word_of seed schedule_stream (length so.events) % length (unfinished (hart_count work) so.events)) ≡ Some e.hart =
        ap (λ n. slice_get (unfinished (hart_count work) so.events) n) (sym chosen) ∙ drawn_at work seed old left draws index h so at ∙ ap Some (sym l.2.1.2) in
        let more : length (so.events ++ e ∷ []) ≡ length so.events + 1 = length-append so.events (e ∷ []) in
        let drawn_more : next.drawn ≡ length (so.events ++ e ∷ []) = omega (arith, is_next.count, count, few, more) in
        let by_seed : next.seed ≡ seed = is_next.same_seed ∙ ap (λ (d : Draws). d.seed) so.drawn in
        let by_stream : next.stream ≡ schedule_stream = is_next.same_stream ∙ ap (λ (d : Draws). d.stream) so.drawn in
        record {
          event = e;
          own = l.2.1.2;
          goes_on = l.2.0;
          running = subst (λ a. AreRunning work seed new (so.events ++ a)) is l.1;
          follows = follows_seed_more (hart_count work) seed [] so.events e so.follows there;
          drawn = λ i. record { seed = by_seed i; stream = by_stream i; drawn = drawn_more i };
        }

module _ (work : Work) (seed : ℕ) (old new : Harts) (left : List ℕ) (draws next : Draws) (index h : ℕ) (so : DrawnSoFar work seed old left draws) (drew : Drew work seed new so.events next h) where
  -- it was its last
  pub drawn_last : slice_get left index ≡ Some h → has_ended (so.events ++ drew.event ∷ []) h ≡ true → DrawnSoFar work seed new (remove left index) next
  drawn_last at ended = record {
    events = so.events ++ drew.event ∷ [];
    running = drew.running;
    follows = drew.follows;
    those_left = ap (λ l. remove l index) so.those_left ∙ unfinished_less (hart_count work) so.events drew.event index h (drawn_at work seed old left draws index h so at) drew.own ended;
    drawn = drew.drawn;
  }

  -- it goes on
  pub drawn_on : has_ended (so.events ++ drew.event ∷ []) h ≡ false → DrawnSoFar work seed new left next
  drawn_on ended = record {
    events = so.events ++ drew.event ∷ [];
    running = drew.running;
    follows = drew.follows;
    those_left = so.those_left ∙ unfinished_same (hart_count work) so.events drew.event h drew.own drew.goes_on ended;
    drawn = drew.drawn;
  }

-- a hart that goes on has a turn
pub drawn_nearer : {E : Type 0} (work : Work) (seed : ℕ) (old new : Harts) (left : List ℕ) (draws : Draws) (index h : ℕ) (turn : Turned) (r : Result Turned E) (so : DrawnSoFar work seed old left draws) → slice_get left index ≡ Some h
    → Leads work old new (TakesTurn h turn) → r ≡ Ok turn → ((place : ℕ) → r ≡ Ok (turned.Event place) → all_left work new < all_left work old) → all_left work new < all_left work old
drawn_nearer work seed old new left draws index h (turned.Event place) r so at leads was nearer = nearer place was
drawn_nearer work seed old new left draws index h turned.Finished r so at leads was nearer =
    absurd (both_ways (has_ended so.events h) (unfinished_goes_on (hart_count work) so.events index h (drawn_at work seed old left draws index h so at)) (leads seed so.events so.running).2.0)

-- ---- before the first word, and behind the last

pub none_drawn : (work : Work) (seed : ℕ) (harts : Harts) (left : List ℕ) (draws : Draws) → AreRunning work seed harts [] → left ≡ range_with_len 0 (hart_count work) → draws ≡ record { seed = seed; stream = schedule_stream; drawn = 0 }
    → DrawnSoFar work seed harts left draws
none_drawn work seed harts left draws runs all first = record { events = []; running = runs; follows = tt; those_left = all ∙ sym (unfinished_at_first (hart_count work)); drawn = first }

pub all_drawn : (work : Work) (seed : ℕ) (harts : Harts) (left : List ℕ) (draws : Draws) (so : DrawnSoFar work seed harts left draws) → left ≡ [] → AllEnded (hart_count work) so.events
all_drawn work seed harts left draws so none = none_unfinished (hart_count work) so.events (sym so.those_left ∙ none)
