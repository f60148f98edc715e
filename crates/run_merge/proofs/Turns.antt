-- One event: all harts, spaces and the machine's memory go on beside each other.
use Rattle.std.proofs.Common.{ℕ, ◌+◌, ◌-◌, ◌*◌, ◌/◌, ◌%◌, ◌<◌, ◌≡◌, Bool, true, false, cond, eqb, eqb-true, eq-eqb, List, [], Option, Some, None, refl, sym, ap, subst, ◌∙◌, length, arith}
use Rattle.std.specs.Prelude.{is_none, ◌&&◌, option_map}
use Rattle.std.specs.Option.{option_or}
use Rattle.std.proofs.lemmas.Option.{cond_some}
use Rattle.rv_fields.specs.Hart.{Hart, updated}
use Rattle.rv_fields.specs.Memory.{Seen, after_access, granule}
use Rattle.rv_fields.specs.Play.{Machine}
use Rattle.rv_fields.specs.declared.access.Accessed.{Accessed}
use Rattle.rv_fields.proofs.Options.{found}
use Rattle.region_plan.specs.Plan.{Work, is_it}
use Rattle.boot_words.specs.Layout.{code_start, data_start, shard_of}
use Rattle.table_space.specs.Tables.{TableSpace}
use Rattle.world_face.specs.Events.{Event, Wanted, a_shard, a_space, holds, is_of_hart}
use Rattle.world_face.specs.Shards.{AccessRight, ProbeRight, ShardState, after_told, shard_after, shard_legal, with_runs}
use Rattle.world_face.specs.Spaces.{space_after, space_legal}
use Rattle.world_face.specs.Told.{Run, access_told, runs_told}
use Rattle.world_face.proofs.Bytes.{RunsStand}
use Rattle.world_face.proofs.Shared.{ReadStands, Shared, Within, lie_now, read_now, shared_after, stand_now}
use Rattle.hart_task.specs.Acts.{Came, Stepping, event_of, is_found, is_last, is_made, steps}
use Rattle.hart_task.specs.Heard.{Heard}
use Rattle.hart_task.specs.State.{HartState, index_of}
use Rattle.hart_task.specs.Stepping.{StepTaken, is_of_data, stepped}
use Rattle.hart_task.specs.Turn.{acted, made_at, made_step, with_word}
use Rattle.hart_task.proofs.Going.{Over, Was, was}
use Rattle.hart_task.proofs.Held.{EntriesStand, WordsStand, within}
use Rattle.hart_task.proofs.Lined.{AllHave, WordHeld, step_access, step_runs}
use Rattle.hart_task.proofs.Made.{Made, made_was}
use Rattle.hart_task.proofs.Standing.{Stands, WordStands}
use Rattle.hart_task.proofs.Viewed.{From}
use Rattle.run_merge.proofs.Settled.{space_stands}

-- the states behind an event
abbrev pub moved : {S : Type 0} → (ℕ → Event → Bool) → (S → Event → S) → (ℕ → S) → Event → ℕ → S
moved names after states e i = cond (names i e) (after (states i) e) (states i)

abbrev pub shards_after : (ℕ → ShardState) → Event → ℕ → ShardState
shards_after shards e = moved (λ q e. holds (a_shard q) e) shard_after shards e

-- ---- the word that is made

pub word_noted : (first : Seen) (h : ℕ) (words : ℕ → Option ℕ) (index word : ℕ) → WordsStand first h words → Stands first (code_start h + 4 * index) 4 word
    → WordsStand first h (updated words index (Some word))
word_noted first h words index word stand here i w is = of (eqb i index) refl is
  where
    of : (t : Bool) → t ≡ eqb i index → cond t (Some word) (words i) ≡ Some w → Stands first (code_start h + 4 * i) 4 w
    of true e is = let same : word ≡ w = cc in subst (λ q. Stands first (code_start h + 4 * q) 4 w) (sym (eqb-true i index (sym e))) (subst (Stands first (code_start h + 4 * index) 4) same here)
    of false e is = stand i w is

-- what the step was taken from, beside the machine
pub record Before (work : Work) (begin : Hart) (first : Seen) (s : HartState) (heard : Heard) (t : StepTaken) (hart : Hart) : Type 0 where
  pub state : HartState
  pub was_so : Was work state heard t
  pub over : Over begin first state hart
  pub number : state.hart.number ≡ s.hart.number

before_made : (work : Work) (begin : Hart) (first : Seen) (s : HartState) (heard : Heard) (t : StepTaken) (hart : Hart) → Over begin first s hart → WordStands first t.effect.pa t.effect.word
    → (word : ℕ) × (wanted : Option Wanted) × (made_step work s word heard wanted ≡ Some t) → Before work begin first s heard t hart
before_made work begin first s heard t hart over stands from =
    let at : ℕ = code_start s.hart.number + 4 * index_of work s in
    let m : Made work s from.0 heard from.1 t = made_was work s from.0 heard from.1 t from.2 in
    let x = found (stepped work (with_word work s from.0) heard from.1) _ t from.2 in
    let did = cond_some (is_none (s.words (index_of work s)) && made_at work s from.0 x.0.effect) x.0 t x.2 in
    let held : WordStands first (Some at) (Some from.0) = subst (λ q. WordStands first q (Some from.0)) m.pa (subst (WordStands first t.effect.pa) m.word stands) in
    record {
      state = with_word work s from.0;
      was_so = was work (with_word work s from.0) heard from.1 t (x.1 ∙ ap Some did.1);
      over = record { c = over.c; t = over.t; is = over.is; words = word_noted first s.hart.number s.words (index_of work s) from.0 over.words held; entries = over.entries };
      number = refl;
    }

pub before : (came : Came) (work : Work) (begin : Hart) (first : Machine) (s : HartState) (heard : Heard) (t : StepTaken) (hart : Hart) → Over begin first.seen s hart → WordHeld came first t.effect → From came work s heard t
    → Before work begin first.seen s heard t hart
before is_made work begin first s heard t hart over held from = before_made work begin first.seen s heard t hart over held from
before is_last work begin first s heard t hart over held from = before_made work begin first.seen s heard t hart over held from
before is_found work begin first s heard t hart over held from = record { state = s; was_so = was work s heard from.0 t from.1; over = over; number = refl }

-- ---- a step

-- the machine beside all states
pub record Beside (work : Work) (n : ℕ) (first m : Machine) (harts : ℕ → HartState) (spaces : ℕ → TableSpace) (shards : ℕ → ShardState) : Type 0 where
  pub over : (h : ℕ) → h < n → Over (first.harts h) first.seen (harts h) (m.harts h)
  pub named : (h : ℕ) → h < n → (harts h).hart.number ≡ h
  pub entries : (k : ℕ) → k < length work.spaces → EntriesStand first.seen (spaces k).entries
  pub shared : Shared first.seen m.seen shards

-- the shard of a granule is that of each byte in it
granule_shard : (pa : ℕ) → shard_of (granule pa * 64) ≡ shard_of pa
granule_shard pa =
    let page : (pa / 64 * 64 - data_start) / 4096 ≡ (pa - data_start) / 4096 = omega arith in
    ap (λ n. n % 32) page

-- what the event tells of its shard stands in the machine
pub record Stood (first now : Seen) (shards : ℕ → ShardState) (hart : ℕ) (access : Option Accessed) (probe : Option (ℕ × Bool)) (told : List Run) (shards' : ℕ → ShardState) : Type 0 where
  pub reads : ReadStands now.byte access
  pub link : (p : ℕ × Bool) → probe ≡ Some p → now.link hart (granule p.0) ≡ Some p.1
  pub shared : Shared first (after_access hart access now) shards'

pub same_shards : (first now : Seen) (f g : ℕ → ShardState) → ((q : ℕ) → f q ≡ g q) → Shared first now f → Shared first now g
same_shards first now f g e over = subst (Shared first now) (λ i. λ q. e q i) over

-- the shards behind an event that names one
one_moved : (shards : ℕ → ShardState) (e : Event) (q : ℕ) (new : ShardState) → e.parts.shard ≡ Some q → shard_after (shards q) e ≡ new → (i : ℕ) → updated shards q new i ≡ shards_after shards e i
one_moved shards e q new at is i = rw at (of (eqb i q) refl)
  where
    of : (t : Bool) → t ≡ eqb i q → cond t new (shards i) ≡ cond t (shard_after (shards i) e) (shards i)
    of true same = sym is ∙ ap (λ k. shard_after (shards k) e) (sym (eqb-true i q (sym same)))
    of false same = refl

pub none_moved : (shards : ℕ → ShardState) (e : Event) → e.parts.shard ≡ None → (i : ℕ) → shards i ≡ shards_after shards e i
none_moved shards e at i = rw at refl

-- an event that tells of no data leaves each shard
pub silent_moved : (shards : ℕ → ShardState) (e : Event) → access_told e ≡ None → runs_told e ≡ [] → (i : ℕ) → shards i ≡ shards_after shards e i
silent_moved shards e access runs i = rw access (rw runs (of (is_it i e.parts.shard)))
  where
    of : (t : Bool) → shards i ≡ cond t (shards i) (shards i)
    of true = refl
    of false = refl

abbrev pub ShardsLegal : Work → (ℕ → ShardState) → Event → Type 0
ShardsLegal work shards e = (q : ℕ) → q < 32 → is_it q e.parts.shard ≡ true → shard_legal work (shards q) e

is_own : (q : ℕ) → is_it q (Some q) ≡ true
is_own q = eq-eqb q q refl

pub stood : (work : Work) (first now : Seen) (shards : ℕ → ShardState) (e : Event) (x : Stepping) → Shared first now shards
    → e ≡ event_of work e.hart (steps x) → is_of_data x.effect.access ≡ true → ((p : ℕ × Bool) (a : Accessed) → x.probe ≡ Some p → x.effect.access ≡ Some a → p.0 ≡ a.pa)
    → RunsStand first.byte x.bytes → ShardsLegal work shards e → Stood first now shards e.hart x.effect.access x.probe x.bytes (shards_after shards e)
stood work first now shards e x over is right same stand legal = of x.effect.access refl x.probe refl
  where
    access_is : access_told e ≡ x.effect.access
    access_is = ap access_told is ∙ step_access work e.hart x

    runs_are : runs_told e ≡ x.bytes
    runs_are = ap runs_told is ∙ step_runs work e.hart x

    probe_is : e.asked.probe ≡ x.probe
    probe_is = ap (λ (q : Event). q.asked.probe) is

    shard_is : e.parts.shard ≡ option_map shard_of (option_or (option_map (λ (p : ℕ × Bool). p.0) x.probe) (option_map (λ (a : Accessed). a.pa) x.effect.access))
    shard_is = ap (λ (q : Event). q.parts.shard) is

    legal_at : (q : ℕ) → q < 32 → e.parts.shard ≡ Some q → shard_legal work (shards q) e
    legal_at q small at = legal q small (rw at (is_own q))

    probed : (q : ℕ) (p : ℕ × Bool) → x.probe ≡ Some p → q ≡ shard_of p.0 → shard_legal work (shards q) e → now.link e.hart (granule p.0) ≡ Some p.1
    probed q p some at law =
        let asked : ProbeRight (shards q) e.hart (Some p) = subst (ProbeRight (shards q) e.hart) (probe_is ∙ some) law.1 in
        sym (over.links e.hart (granule p.0)) ∙ ap (λ k. (shards k).links e.hart (granule p.0)) (granule_shard p.0 ∙ sym at) ∙ asked

    accessed : (a : Accessed) → x.effect.access ≡ Some a → e.parts.shard ≡ Some (shard_of a.pa) → ((p : ℕ × Bool) → x.probe ≡ Some p → p.0 ≡ a.pa) → Stood first now shards e.hart (Some a) x.probe x.bytes (shards_after shards e)
    accessed a some at near =
        let law : shard_legal work (shards (shard_of a.pa)) e = legal_at (shard_of a.pa) (omega arith) at in
        let told : AccessRight (shards (shard_of a.pa)) x.bytes (Some a) =
        subst (λ r. AccessRight (shards (shard_of a.pa)) r (Some a)) runs_are (subst (AccessRight (shards (shard_of a.pa)) (runs_told e)) (access_is ∙ some) law.2) in
        let lies : Within a = within a (subst (λ o. is_of_data o ≡ true) some right) in
        let stand_in : RunsStand now.byte x.bytes = stand_now first now shards a x.bytes over lies told.0 stand in
        let lie = lie_now first now shards (shard_of a.pa) x.bytes over stand_in in
        record {
          reads = read_now first now shards a x.bytes over lies lie told.1;
          link = λ p is. probed (shard_of a.pa) p is (ap shard_of (sym (near p is))) law;
          shared = same_shards first (after_access e.hart (Some a) now) _ _
              (one_moved shards e (shard_of a.pa) _ at (ap (λ o. after_told e.hart o (record (shards (shard_of a.pa)) { bytes = with_runs (shards (shard_of a.pa)).bytes (runs_told e) })) (access_is ∙ some)
              ∙ ap (λ r. after_told e.hart (Some a) (record (shards (shard_of a.pa)) { bytes = with_runs (shards (shard_of a.pa)).bytes r })) runs_are))
              (shared_after first now shards e.hart a x.bytes over lies lie);
        }

    shard_at : (m : Option Accessed) (p : Option (ℕ × Bool)) → m ≡ x.effect.access → p ≡ x.probe
        → e.parts.shard ≡ option_map shard_of (option_or (option_map (λ (p : ℕ × Bool). p.0) p) (option_map (λ (a : Accessed). a.pa) m))
    shard_at m p at probe = rw at (rw probe shard_is)

    of : (m : Option Accessed) → m ≡ x.effect.access → (p : Option (ℕ × Bool)) → p ≡ x.probe → Stood first now shards e.hart m x.probe x.bytes (shards_after shards e)
    of (Some a) at None probe = accessed a (sym at) (shard_at (Some a) None at probe) (λ p is. same p a is (sym at))
    of (Some a) at (Some q) probe = accessed a (sym at) (shard_at (Some a) (Some q) at probe ∙ ap (λ n. Some (shard_of n)) (same q a (sym probe) (sym at))) (λ p is. same p a is (sym at))
    of None at None probe = record {
      reads = tt;
      link = λ p is. absurd (let no : None ≡ Some p = probe ∙ is in cc);
      shared = same_shards first now _ _ (none_moved shards e (shard_at None None at probe)) over;
    }
    of None at (Some q) probe =
        let law : shard_legal work (shards (shard_of q.0)) e = legal_at (shard_of q.0) (omega arith) (shard_at None (Some q) at probe) in
        let none : runs_told e ≡ [] = subst (AccessRight (shards (shard_of q.0)) (runs_told e)) (access_is ∙ sym at) law.2 in
        record {
          reads = tt;
          link = λ p is. probed (shard_of q.0) p is (let same_p : Some q ≡ Some p = probe ∙ is in let q_is : q ≡ p = cc in ap (λ (r : ℕ × Bool). shard_of r.0) q_is) law;
          shared = same_shards first now _ _ (silent_moved shards e (access_is ∙ sym at) none) over;
        }

-- ---- harts and spaces behind an event

abbrev pub harts_after : Work → (ℕ → HartState) → Event → ℕ → HartState
harts_after work harts e = moved is_of_hart (acted work) harts e

abbrev pub spaces_after : Work → (ℕ → TableSpace) → Event → ℕ → TableSpace
spaces_after work spaces e = moved (λ k e. holds (a_space k) e) (space_after work) spaces e

abbrev pub SpacesLegal : Work → (ℕ → TableSpace) → Event → Type 0
SpacesLegal work spaces e = (k : ℕ) → k < length work.spaces → is_it k e.parts.space ≡ true → space_legal work (spaces k) e

pub spaces_on : (work : Work) (first : Machine) (spaces : ℕ → TableSpace) (e : Event) → ((k : ℕ) → k < length work.spaces → EntriesStand first.seen (spaces k).entries)
    → SpacesLegal work spaces e → AllHave first e.lines → (k : ℕ) → k < length work.spaces → EntriesStand first.seen (spaces_after work spaces e k).entries
spaces_on work first spaces e stand legal all k small = of (is_it k e.parts.space) refl
  where
    of : (t : Bool) → t ≡ is_it k e.parts.space → EntriesStand first.seen (cond t (space_after work (spaces k) e) (spaces k)).entries
    of true is = space_stands work first (spaces k) e (legal k small (sym is)) all (stand k small)
    of false is = stand k small

turn_eqb : (a b : ℕ) (t : Bool) → t ≡ eqb a b → t ≡ eqb b a
turn_eqb a b t e = of t (eqb b a) refl e refl
  where
    of : (t u : Bool) → u ≡ eqb b a → t ≡ eqb a b → t ≡ t → t ≡ eqb b a
    of true u is e q = sym (eq-eqb b a (sym (eqb-true a b (sym e))))
    of false true is e q = absurd (let yes : eqb a b ≡ true = eq-eqb a b (sym (eqb-true b a (sym is))) in cc)
    of false false is e q = is

-- one hart goes on, in its log and in the machine
pub harts_on : (work : Work) (n : ℕ) (first m : Machine) (harts : ℕ → HartState) (e : Event) (s : HartState) (next : Hart)
    → ((h : ℕ) → h < n → Over (first.harts h) first.seen (harts h) (m.harts h)) → acted work (harts e.hart) e ≡ s → Over (first.harts e.hart) first.seen s next
    → (h : ℕ) → h < n → Over (first.harts h) first.seen (harts_after work harts e h) (updated m.harts e.hart next h)
harts_on work n first m harts e s next over is here h small = of (eqb e.hart h) (eqb h e.hart) refl (turn_eqb e.hart h (eqb e.hart h) refl)
  where
    of : (t u : Bool) → t ≡ eqb e.hart h → t ≡ eqb h e.hart → Over (first.harts h) first.seen (cond t (acted work (harts h) e) (harts h)) (cond (eqb h e.hart) next (m.harts h))
    of true u same other =
        rw (sym other) (let at : e.hart ≡ h = eqb-true e.hart h (sym same) in
        subst (λ q. Over (first.harts q) first.seen (acted work (harts q) e) next) at (subst (λ q. Over (first.harts e.hart) first.seen q next) (sym is) here))
    of false u same other = rw (sym other) (over h small)

pub harts_noted : (work : Work) (n : ℕ) (first m : Machine) (harts : ℕ → HartState) (e : Event) (s : HartState)
    → ((h : ℕ) → h < n → Over (first.harts h) first.seen (harts h) (m.harts h)) → acted work (harts e.hart) e ≡ s → Over (first.harts e.hart) first.seen s (m.harts e.hart)
    → (h : ℕ) → h < n → Over (first.harts h) first.seen (harts_after work harts e h) (m.harts h)
harts_noted work n first m harts e s over is here h small = of (eqb e.hart h) refl
  where
    of : (t : Bool) → t ≡ eqb e.hart h → Over (first.harts h) first.seen (cond t (acted work (harts h) e) (harts h)) (m.harts h)
    of true same =
        let at : e.hart ≡ h = eqb-true e.hart h (sym same) in
        subst (λ q. Over (first.harts q) first.seen (acted work (harts q) e) (m.harts q)) at (subst (λ q. Over (first.harts e.hart) first.seen q (m.harts e.hart)) (sym is) here)
    of false same = over h small

pub named_on : (work : Work) (n : ℕ) (harts : ℕ → HartState) (e : Event) → ((h : ℕ) → h < n → (harts h).hart.number ≡ h) → e.hart < n → (acted work (harts e.hart) e).hart.number ≡ e.hart
    → (h : ℕ) → h < n → (harts_after work harts e h).hart.number ≡ h
named_on work n harts e named small here h below = of (eqb e.hart h) refl
  where
    of : (t : Bool) → t ≡ eqb e.hart h → (cond t (acted work (harts h) e) (harts h)).hart.number ≡ h
    of true same = subst (λ q. (acted work (harts q) e).hart.number ≡ q) (eqb-true e.hart h (sym same)) here
    of false same = named h below
