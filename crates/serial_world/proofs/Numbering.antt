-- Events at their places.
use Rattle.std.proofs.Common.{ℕ, suc, ◌+◌, ◌≡◌, ◌≢◌, Bool, true, false, cond, List, [], ◌∷◌, ◌++◌, length, refl, sym, ap, ◌∙◌, arith}
use Rattle.std.specs.Prelude.{filter}
use Rattle.std.proofs.lemmas.Bool.{eq-eqb, ne_eqb}
use Rattle.std.proofs.lemmas.List.{append-nil, append_cancel_left, length-append, length-map}
use Rattle.std.proofs.lemmas.List.Elements.{filter-append}
use Rattle.world_face.specs.Events.{Event, Placed, is_of_hart}
use Rattle.hart_task.specs.Log.{events_of}
use Rattle.hart_task.specs.Logs.{numbered}
use Rattle.hart_task.proofs.Turning.{events_more}
use Rattle.serial_world.specs.World.{AreInTurn, in_places, placed_of}

abbrev pub placed : ℕ → Event → Placed
placed place event = record { place = place; event = event }

pub events_numbered : (place : ℕ) (events : List Event) → events_of (numbered place events) ≡ events
events_numbered place [] = refl
events_numbered place (e ∷ es) = ap (λ l. e ∷ l) (events_numbered (place + 1) es)

length_numbered : (place : ℕ) (events : List Event) → length (numbered place events) ≡ length events
length_numbered place [] = refl
length_numbered place (e ∷ es) = ap suc (length_numbered (place + 1) es)

numbered_more : (place : ℕ) (events : List Event) (e : Event) → numbered place (events ++ e ∷ []) ≡ numbered place events ++ placed (place + length events) e ∷ []
numbered_more place [] e = let at : place ≡ place + 0 = omega arith in ap (λ n. placed n e ∷ []) at
numbered_more place (x ∷ xs) e =
    let at : (place + 1) + length xs ≡ place + length (x ∷ xs) = omega arith in
    ap (λ l. placed place x ∷ l) (numbered_more (place + 1) xs e ∙ ap (λ n. numbered (place + 1) xs ++ placed n e ∷ []) at)

numbered_behind : (events : List Event) (e : Event) → in_places (events ++ e ∷ []) ≡ in_places events ++ placed (length events) e ∷ []
numbered_behind events e =
    let at : 0 + length events ≡ length events = omega arith in
    numbered_more 0 events e ∙ ap (λ n. in_places events ++ placed n e ∷ []) at

-- ---- in turn

pub in_turn_now : (events : List Event) → AreInTurn (length events) (in_places events)
in_turn_now events = record { in_turn = ap in_places (sym (events_numbered 0 events)); many = length_numbered 0 events }

-- an event that took the next place
pub in_turn_next : (events : List Event) (e : Event) (place next : ℕ) → AreInTurn next (in_places events ++ placed place e ∷ []) → (place ≡ length events) × (length (events ++ e ∷ []) ≡ next)
in_turn_next events e place next stand =
    let all : events_of (in_places events ++ placed place e ∷ []) ≡ events ++ e ∷ [] =
    events_more (in_places events) (placed place e) ∙ ap (λ l. l ++ e ∷ []) (events_numbered 0 events) in
    let last : placed place e ∷ [] ≡ placed (length events) e ∷ [] =
    append_cancel_left (in_places events) _ _ (stand.in_turn ∙ ap in_places all ∙ numbered_behind events e) in
    let at : placed place e ≡ placed (length events) e = cc in
    (ap (λ (p : Placed). p.place) at, sym (length_numbered 0 (events ++ e ∷ [])) ∙ ap length (sym (stand.in_turn ∙ ap in_places all)) ∙ stand.many)

-- ---- those of a hart

pub placed_of_same : (h : ℕ) (events : List Event) (e : Event) → e.hart ≡ h → placed_of h (events ++ e ∷ []) ≡ placed_of h events ++ placed (length events) e ∷ []
placed_of_same h events e same =
    ap (λ l. filter (λ (p : Placed). is_of_hart h p.event) l) (numbered_behind events e)
    ∙ filter-append (λ (p : Placed). is_of_hart h p.event) (in_places events) (placed (length events) e ∷ [])
    ∙ ap (λ t. placed_of h events ++ cond t (placed (length events) e ∷ []) []) (eq-eqb e.hart h same)

pub placed_of_other : (h : ℕ) (events : List Event) (e : Event) → e.hart ≢ h → placed_of h (events ++ e ∷ []) ≡ placed_of h events
placed_of_other h events e other =
    ap (λ l. filter (λ (p : Placed). is_of_hart h p.event) l) (numbered_behind events e)
    ∙ filter-append (λ (p : Placed). is_of_hart h p.event) (in_places events) (placed (length events) e ∷ [])
    ∙ ap (λ t. placed_of h events ++ cond t (placed (length events) e ∷ []) []) (ne_eqb e.hart h other)
    ∙ append-nil (placed_of h events)

abbrev pub those_of : ℕ → ℕ → List Event → List Placed
those_of h place events = filter (λ (p : Placed). is_of_hart h p.event) (numbered place events)

pub events_of_hart : (h place : ℕ) (events : List Event) → events_of (those_of h place events) ≡ filter (is_of_hart h) events
events_of_hart h place [] = refl
events_of_hart h place (e ∷ es) = of (is_of_hart h e) (events_of_hart h (place + 1) es)
  where
    of : (t : Bool) → events_of (those_of h (place + 1) es) ≡ filter (is_of_hart h) es
        → events_of (cond t (placed place e ∷ those_of h (place + 1) es) (those_of h (place + 1) es)) ≡ cond t (e ∷ filter (is_of_hart h) es) (filter (is_of_hart h) es)
    of true rest = ap (λ l. e ∷ l) rest
    of false rest = rest

-- one event more takes the next place
pub in_turn_more : (next : ℕ) (all : List Placed) (e : Event) → AreInTurn next all → AreInTurn (next + 1) (all ++ placed next e ∷ [])
in_turn_more next all e stand =
    let many : length (events_of all) ≡ next = length-map all (λ (p : Placed). p.event) ∙ stand.many in
    record {
      in_turn = ap (λ l. l ++ placed next e ∷ []) stand.in_turn ∙ ap (λ n. in_places (events_of all) ++ placed n e ∷ []) (sym many) ∙ sym (numbered_behind (events_of all) e)
          ∙ ap in_places (sym (events_more all (placed next e)));
      many = let more = length-append all (placed next e ∷ []) in omega (arith, more, stand.many);
    }
