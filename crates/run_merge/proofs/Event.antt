-- Every legal event leaves the machine beside the states, by a step of its hart where it has one.
use Rattle.std.proofs.Common.{◌⊎◌, ℕ, ◌<◌, ◌≡◌, Bool, true, false, cond, eqb, eqb-true, eq-eqb, [], ◌∷◌, Option, Some, None, inl, inr, refl, sym, ap, subst, ◌∙◌, length}
use Rattle.std.specs.Prelude.{is_some}
use Rattle.std.specs.Option.{option_map_or, option_or}
use Rattle.rv_fields.specs.Effect.{Effect}
use Rattle.rv_fields.specs.Hart.{Hart, updated}
use Rattle.rv_fields.specs.Laws.{opened}
use Rattle.rv_fields.specs.Memory.{Seen, granule}
use Rattle.rv_fields.specs.Play.{Machine, after_step}
use Rattle.rv_fields.specs.Step.{step}
use Rattle.rv_fields.specs.declared.access.Accessed.{Accessed}
use Rattle.region_plan.specs.Plan.{Work, is_it, plan_of}
use Rattle.table_space.specs.Tables.{TableSpace, with_entries}
use Rattle.trace_text.specs.Lines.{effects_of}
use Rattle.world_face.specs.Events.{Event, Settle}
use Rattle.world_face.specs.Shards.{ShardState}
use Rattle.world_face.specs.Told.{access_told, runs_told}
use Rattle.world_face.proofs.Shared.{ReadStands}
use Rattle.hart_task.specs.Acts.{Act, Begun, Fixing, Stepping, answers, begins, event_of, gives_up, is_memory, refuses, steps}
use Rattle.hart_task.specs.Heard.{heard_of}
use Rattle.hart_task.specs.State.{HartState}
use Rattle.hart_task.specs.Stepping.{StepTaken, is_of_data}
use Rattle.hart_task.specs.Turn.{Turned, acted, acts, is_of, turned}
use Rattle.hart_task.proofs.Going.{EachFixed, Goes, Over, Was, goes, kept_data, laid}
use Rattle.hart_task.proofs.Held.{EntriesStand, WordsStand, seen_extends}
use Rattle.hart_task.proofs.Lined.{AllHave, FixingHeld, StepHas, WordHeld, answers_effects, answers_has, begins_effects, begins_has, refuses_effects, step_access, step_effects, step_has, told_silent}
use Rattle.hart_task.proofs.Standing.{HandlersStand}
use Rattle.hart_task.proofs.Viewed.{Begins, Keeps, View, entries_noted, hart_fixed, turned_view}
use Rattle.run_merge.proofs.Settled.{noted_stand, settle_stands}
use Rattle.run_merge.proofs.Turns.{Before, Beside, ShardsLegal, SpacesLegal, Stood, before, harts_after, harts_noted, harts_on, named_on, none_moved, same_shards, shards_after, silent_moved, spaces_after, spaces_on, stood}

pub record Silent (work : Work) (n : ℕ) (first m : Machine) (harts : ℕ → HartState) (spaces : ℕ → TableSpace) (shards : ℕ → ShardState) (e : Event) : Type 0 where
  pub none : effects_of e.lines ≡ []
  pub beside : Beside work n first m (harts_after work harts e) (spaces_after work spaces e) (shards_after shards e)

pub record Sounds (work : Work) (n : ℕ) (first m : Machine) (harts : ℕ → HartState) (spaces : ℕ → TableSpace) (shards : ℕ → ShardState) (e : Event) : Type 0 where
  pub effect : Effect
  pub next : Hart
  pub one : effects_of e.lines ≡ effect ∷ []
  pub whose : effect.hart ≡ e.hart
  pub steps_so : step m.seen (m.harts e.hart) ≡ Some (record { effect = effect; hart = next })
  pub beside : Beside work n first (after_step m e.hart (record { effect = effect; hart = next })) (harts_after work harts e) (spaces_after work spaces e) (shards_after shards e)

-- what is legal, and what the first machine has
pub record Given (work : Work) (n : ℕ) (first : Machine) (harts : ℕ → HartState) (spaces : ℕ → TableSpace) (shards : ℕ → ShardState) (e : Event) : Type 0 where
  pub small : e.hart < n
  pub shards_legal : ShardsLegal work shards e
  pub spaces_legal : SpacesLegal work spaces e
  pub have : AllHave first e.lines
  pub handlers : HandlersStand first.seen
  pub planned : (k : ℕ) → (plan_of work e.hart).space ≡ Some k → k < length work.spaces

over_keeps : (begin : Hart) (first : Seen) (s u : HartState) (hart : Hart) → Keeps s u → Over begin first s hart → Over begin first u hart
over_keeps begin first s u hart keeps over = record {
  c = over.c;
  t = over.t;
  is = over.is ∙ ap (λ (k : Hart). opened (laid k.x begin.x) over.c over.t k) (sym keeps.hart);
  words = subst (λ h. WordsStand first h u.words) (ap (λ (k : Hart). k.number) (sym keeps.hart)) (subst (WordsStand first s.hart.number) (sym keeps.words) over.words);
  entries = subst (EntriesStand first) (sym keeps.entries) over.entries;
}

step_goes : (work : Work) (n : ℕ) (first m : Machine) (harts : ℕ → HartState) (spaces : ℕ → TableSpace) (shards : ℕ → ShardState) (e : Event)
    → Given work n first harts spaces shards e → Beside work n first m harts spaces shards → (x : Stepping) → e ≡ event_of work e.hart (steps x)
    → (u : HartState) → acted work (harts e.hart) e ≡ u → View work (harts e.hart) (heard_of e) (steps x) u → Sounds work n first m harts spaces shards e
step_goes work n first m harts spaces shards e given b x is u behind view =
    let s : HartState = harts e.hart in
    let t : StepTaken = view.0 in
    let v : HartState = view.1 in
    let has : StepHas first e.hart x = step_has work first e.hart x (subst (λ (q : Event). AllHave first q.lines) is given.have) in
    let held : WordHeld x.came first t.effect = subst (WordHeld x.came first) view.5 has.word in
    let bf : Before work (first.harts e.hart) first.seen s (heard_of e) t (m.harts e.hart) =
    before x.came work (first.harts e.hart) first s (heard_of e) t (m.harts e.hart) (b.over e.hart given.small) held view.2 in
    let did : Was work bf.state (heard_of e) t = bf.was_so in
    let right : is_of_data x.effect.access ≡ true = subst (λ (q : Effect). is_of_data q.access ≡ true) (sym view.5) (kept_data t.effect did.keeps) in
    let near : (p : ℕ × Bool) (a : Accessed) → x.probe ≡ Some p → x.effect.access ≡ Some a → p.0 ≡ a.pa =
    λ p a pe ae. did.probe p a (sym view.6 ∙ pe) (ap (λ (q : Effect). q.access) (sym view.5) ∙ ae) in
    let st : Stood first.seen m.seen shards e.hart x.effect.access x.probe x.bytes (shards_after shards e) =
    stood work first.seen m.seen shards e x b.shared is right near has.bytes given.shards_legal in
    let access_is : access_told e ≡ x.effect.access = ap access_told is ∙ step_access work e.hart x in
    let probe_is : e.asked.probe ≡ x.probe = ap (λ (q : Event). q.asked.probe) is in
    let number : bf.state.hart.number ≡ e.hart = bf.number ∙ b.named e.hart given.small in
    let more = seen_extends work first.seen m.seen bf.state (heard_of e) bf.over.words bf.over.entries given.handlers b.shared.low
    (subst (ReadStands m.seen.byte) (sym access_is) st.reads) (λ p pe. ap (λ h. m.seen.link h (granule p.0)) number ∙ st.link p (sym probe_is ∙ pe)) in
    let g : Goes (first.harts e.hart) first.seen m.seen bf.state t (m.harts e.hart) =
    goes work (first.harts e.hart) first.seen m.seen bf.state (heard_of e) t (m.harts e.hart) bf.over more did
    (subst (EachFixed (λ r v. (first.harts e.hart).x r ≡ Some v)) view.3 has.registers) in
    let v_over : Over (first.harts e.hart) first.seen v g.next = over_keeps (first.harts e.hart) first.seen t.state v g.next view.8 g.over in
    record {
      effect = x.effect;
      next = g.next;
      one = ap (λ (q : Event). effects_of q.lines) is ∙ step_effects work e.hart x;
      whose = ap (λ (q : Effect). q.hart) view.5 ∙ g.effect_of ∙ number;
      steps_so = g.steps ∙ ap (λ (q : Effect). Some (record { effect = q; hart = g.next })) (sym view.5);
      beside = record {
        over = harts_on work n first m harts e v g.next b.over (behind ∙ view.7) v_over;
        named = named_on work n harts e b.named given.small (ap (λ (q : HartState). q.hart.number) (behind ∙ view.7) ∙ ap (λ (k : Hart). k.number) view.8.hart ∙ g.number ∙ number);
        entries = spaces_on work first spaces e b.entries given.spaces_legal given.have;
        shared = st.shared;
      };
    }

silent : (work : Work) (n : ℕ) (first m : Machine) (harts : ℕ → HartState) (spaces : ℕ → TableSpace) (shards : ℕ → ShardState) (e : Event)
    → Given work n first harts spaces shards e → Beside work n first m harts spaces shards → effects_of e.lines ≡ [] → ((q : ℕ) → shards q ≡ shards_after shards e q)
    → (u : HartState) → acted work (harts e.hart) e ≡ u → Over (first.harts e.hart) first.seen u (m.harts e.hart) → u.hart.number ≡ (harts e.hart).hart.number
    → Silent work n first m harts spaces shards e
silent work n first m harts spaces shards e given b none same u behind over number = record {
  none = none;
  beside = record {
    over = harts_noted work n first m harts e u b.over behind over;
    named = named_on work n harts e b.named given.small (ap (λ (q : HartState). q.hart.number) behind ∙ number ∙ b.named e.hart given.small);
    entries = spaces_on work first spaces e b.entries given.spaces_legal given.have;
    shared = same_shards first.seen m.seen shards (shards_after shards e) same b.shared;
  };
}

laid_fixed : (x begin : ℕ → Option ℕ) (r v : ℕ) → x r ≡ None → begin r ≡ Some v → (q : ℕ) → laid (updated x r (Some v)) begin q ≡ laid x begin q
laid_fixed x begin r v none has q = of (eqb q r) refl
  where
    of : (t : Bool) → t ≡ eqb q r → option_or (cond t (Some v) (x q)) (begin q) ≡ option_or (x q) (begin q)
    of true e = let at : q ≡ r = eqb-true q r (sym e) in sym (ap (λ k. option_or (x k) (begin k)) at ∙ ap (λ o. option_or o (begin r)) none ∙ has)
    of false e = refl

pub over_begun : (work : Work) (begin : Hart) (first : Seen) (s u : HartState) (hart : Hart) (b : Begun) (fixing : Option Fixing) → Begins work s b fixing u
    → ((f : Fixing) → fixing ≡ Some f → begin.x f.register ≡ Some f.value) → EntriesStand first (entries_noted b.settle s.entries) → Over begin first s hart → Over begin first u hart
over_begun work begin first s u hart b fixing did has entries over = record {
  c = over.c;
  t = over.t;
  is = over.is ∙ of fixing did.late has ∙ ap (λ (k : Hart). opened (laid k.x begin.x) over.c over.t k) (sym did.hart);
  words = subst (λ h. WordsStand first h u.words) (number fixing ∙ ap (λ (k : Hart). k.number) (sym did.hart)) (subst (WordsStand first s.hart.number) (sym did.words) over.words);
  entries = subst (EntriesStand first) (sym did.entries) entries;
}
  where
    number : (f : Option Fixing) → s.hart.number ≡ (hart_fixed f s.hart).number
    number None = refl
    number (Some f) = refl

    of : (fixing : Option Fixing) → ((f : Fixing) → fixing ≡ Some f → s.hart.x f.register ≡ None) → ((f : Fixing) → fixing ≡ Some f → begin.x f.register ≡ Some f.value)
        → opened (laid s.hart.x begin.x) over.c over.t s.hart ≡ opened (laid (hart_fixed fixing s.hart).x begin.x) over.c over.t (hart_fixed fixing s.hart)
    of None late has = refl
    of (Some f) late has = ap (λ x. opened x over.c over.t s.hart) (λ i. λ q. sym (laid_fixed s.hart.x begin.x f.register f.value (late f refl) (has f refl) q) i)

-- ---- the events that step nothing

begun_entries : (work : Work) (n : ℕ) (first m : Machine) (harts : ℕ → HartState) (spaces : ℕ → TableSpace) (shards : ℕ → ShardState) (e : Event)
    → Given work n first harts spaces shards e → Beside work n first m harts spaces shards → (b : Begun) (fixing : Option Fixing) (u : HartState) → Begins work (harts e.hart) b fixing u
    → e.asked.settle ≡ b.settle → e.asked.short ≡ b.short → e.parts.space ≡ cond (is_memory b.request) (plan_of work e.hart).space None
    → EntriesStand first.seen (entries_noted b.settle (harts e.hart).entries)
begun_entries work n first m harts spaces shards e given be b fixing u did settle_is short_is space_is = of b.settle refl
  where
    s : HartState
    s = harts e.hart

    stands : EntriesStand first.seen s.entries
    stands = (be.over e.hart given.small).entries

    of : (o : Option Settle) → o ≡ b.settle → EntriesStand first.seen (entries_noted o s.entries)
    of None is = stands
    of (Some settle) is = in_space (plan_of work e.hart).space refl (subst (λ h. is_some (plan_of work h).space ≡ true) (be.named e.hart given.small) (did.memory settle (sym is)).1)
      where
        short : (b.short ≡ None) ⊎ (settle.path ≡ []) → (e.asked.short ≡ None) ⊎ (settle.path ≡ [])
        short (inl none) = inl (short_is ∙ none)
        short (inr none) = inr none

        in_space : (o : Option ℕ) → o ≡ (plan_of work e.hart).space → is_some o ≡ true → EntriesStand first.seen (with_entries s.entries settle.path)
        in_space None at some = absurd cc
        in_space (Some k) at some =
            let held : e.parts.space ≡ Some k = space_is ∙ ap (λ t. cond t (plan_of work e.hart).space None) (did.memory settle (sym is)).0 ∙ sym at in
            let small : k < length work.spaces = given.planned k (sym at) in
            let own : is_it k e.parts.space ≡ true = ap (is_it k) held ∙ eq-eqb k k refl in
            noted_stand first.seen s.entries settle.path stands
            (settle_stands work first (spaces k) e settle (settle_is ∙ sym is) (short (did.short settle (sym is))) (given.spaces_legal k small own) given.have (be.entries k small)).0

held_each : (first : Machine) (h : ℕ) (fixing : Option Fixing) → FixingHeld first h fixing → (f : Fixing) → fixing ≡ Some f → (first.harts h).x f.register ≡ Some f.value
held_each first h None held f e = absurd cc
held_each first h (Some g) held f e = subst (λ (q : Fixing). (first.harts h).x q.register ≡ Some q.value) (let same : g ≡ f = cc in same) held

begins_number : (work : Work) (s u : HartState) (b : Begun) (fixing : Option Fixing) → Begins work s b fixing u → u.hart.number ≡ s.hart.number
begins_number work s u b fixing did = ap (λ (k : Hart). k.number) did.hart ∙ of fixing
  where
    of : (f : Option Fixing) → (hart_fixed f s.hart).number ≡ s.hart.number
    of None = refl
    of (Some f) = refl

by_act : (work : Work) (n : ℕ) (first m : Machine) (harts : ℕ → HartState) (spaces : ℕ → TableSpace) (shards : ℕ → ShardState) (e : Event)
    → Given work n first harts spaces shards e → Beside work n first m harts spaces shards → (act : Act) → e ≡ event_of work e.hart act
    → (u : HartState) → acted work (harts e.hart) e ≡ u → View work (harts e.hart) (heard_of e) act u
    → Silent work n first m harts spaces shards e ⊎ Sounds work n first m harts spaces shards e
by_act work n first m harts spaces shards e given be (steps x) is u behind view = inr (step_goes work n first m harts spaces shards e given be x is u behind view)
by_act work n first m harts spaces shards e given be (refuses b cause) is u behind view =
    inl (silent work n first m harts spaces shards e given be (ap (λ (q : Event). effects_of q.lines) is ∙ refuses_effects work e.hart b cause)
    (none_moved shards e (ap (λ (q : Event). q.parts.shard) is)) u behind (over_keeps _ _ _ u _ view (be.over e.hart given.small)) (ap (λ (k : Hart). k.number) view.hart))
by_act work n first m harts spaces shards e given be (gives_up k preamble wanted) is u behind view =
    inl (silent work n first m harts spaces shards e given be (ap (λ (q : Event). effects_of q.lines) is)
    (silent_moved shards e (ap access_told is) (ap runs_told is)) u behind (over_keeps _ _ _ u _ view (be.over e.hart given.small)) (ap (λ (k : Hart). k.number) view.hart))
by_act work n first m harts spaces shards e given be (answers b fixing) is u behind view =
    inl (silent work n first m harts spaces shards e given be (ap (λ (q : Event). effects_of q.lines) is ∙ answers_effects work e.hart b fixing)
    (none_moved shards e (ap (λ (q : Event). q.parts.shard) is)) u behind
    (over_begun work (first.harts e.hart) first.seen (harts e.hart) u (m.harts e.hart) b fixing view
    (held_each first e.hart fixing (answers_has work first e.hart b fixing (subst (λ (q : Event). AllHave first q.lines) is given.have)))
    (begun_entries work n first m harts spaces shards e given be b fixing u view (ap (λ (q : Event). q.asked.settle) is) (ap (λ (q : Event). q.asked.short) is) (ap (λ (q : Event). q.parts.space) is))
    (be.over e.hart given.small))
    (begins_number work (harts e.hart) u b fixing view))
by_act work n first m harts spaces shards e given be (begins b fixing told) is u behind view =
    inl (silent work n first m harts spaces shards e given be (ap (λ (q : Event). effects_of q.lines) is ∙ begins_effects work e.hart b fixing told (quiet (is_some b.settle) view.1))
    (none_moved shards e (ap (λ (q : Event). q.parts.shard) is)) u behind
    (over_begun work (first.harts e.hart) first.seen (harts e.hart) u (m.harts e.hart) b fixing view.0
    (held_each first e.hart fixing (begins_has work first e.hart b fixing told (subst (λ (q : Event). AllHave first q.lines) is given.have)))
    (begun_entries work n first m harts spaces shards e given be b fixing u view.0 (ap (λ (q : Event). q.asked.settle) is) (ap (λ (q : Event). q.asked.short) is) (ap (λ (q : Event). q.parts.space) is))
    (be.over e.hart given.small))
    (begins_number work (harts e.hart) u b fixing view.0))
  where
    quiet : (t : Bool) → told ≡ cond t (heard_of e).told [] → effects_of told ≡ []
    quiet true q = ap effects_of q ∙ told_silent e
    quiet false q = ap effects_of q

pub event_goes : (work : Work) (n : ℕ) (first m : Machine) (harts : ℕ → HartState) (spaces : ℕ → TableSpace) (shards : ℕ → ShardState) (e : Event)
    → Given work n first harts spaces shards e → Beside work n first m harts spaces shards → acts work (harts e.hart) e
    → Silent work n first m harts spaces shards e ⊎ Sounds work n first m harts spaces shards e
event_goes work n first m harts spaces shards e given be does = of (turned work (harts e.hart) (heard_of e)) refl does
  where
    of : (o : Option Turned) → o ≡ turned work (harts e.hart) (heard_of e) → is_of work (harts e.hart).hart.number e o → Silent work n first m harts spaces shards e ⊎ Sounds work n first m harts spaces shards e
    of None is does = absurd does
    of (Some t) is does =
        by_act work n first m harts spaces shards e given be t.act (subst (λ h. e ≡ event_of work h t.act) (be.named e.hart given.small) does) t.state
        (ap (λ (o : Option Turned). option_map_or (λ (t : Turned). t.state) o (harts e.hart)) (sym is)) (turned_view work (harts e.hart) (heard_of e) t (sym is))
