-- One run is justified.
use Rattle.std.proofs.Common.{◌⊎◌, ℕ, ◌<◌, ◌≡◌, Bool, true, false, cond, eq-eqb, List, [], ◌∷◌, ◌++◌, inl, inr, refl, sym, ap, subst, ◌∙◌, length, filter}
use Rattle.std.specs.List.{AllByRecursion}
use Rattle.std.proofs.lemmas.List.Elements.{filter_map-append}
use Rattle.rv_fields.specs.Play.{Machine, Plays, after_step}
use Rattle.rv_fields.specs.Step.{Stepped}
use Rattle.choice_tree.specs.Forest.{Forest}
use Rattle.region_plan.specs.Plan.{hart_count, Work}
use Rattle.table_space.specs.Tables.{TableSpace, opening_space}
use Rattle.trace_text.specs.Lines.{Line, effect_of, effects_of}
use Rattle.world_face.specs.Events.{Event, a_shard, a_space, holds, is_of_hart}
use Rattle.world_face.specs.Runs.{Runs}
use Rattle.world_face.specs.Shards.{ShardState, opening_shard, shard_after, shard_legal}
use Rattle.world_face.specs.Spaces.{space_after, space_legal}
use Rattle.hart_task.specs.OneRun.{OneRun, all_lines}
use Rattle.hart_task.specs.State.{HartState, start}
use Rattle.hart_task.specs.Turn.{acted, acts}
use Rattle.hart_task.proofs.Lined.{AllHave}
use Rattle.hart_task.proofs.Standing.{HandlersStand, IsPlanned}
use Rattle.run_merge.specs.Justified.{DoesAll, order_of}
use Rattle.run_merge.proofs.Event.{Given, Silent, Sounds, event_goes}
use Rattle.run_merge.proofs.Law.{HasAll, over_start}
use Rattle.run_merge.proofs.Turns.{Beside, harts_after, moved, shards_after, spaces_after}

-- the runs of many machines, each over its events among these
unfoldable pub Running : {S : Type 0} → (ℕ → Event → Bool) → (S → Event → Type 0) → (S → Event → S) → ℕ → (ℕ → S) → List Event → Type 0
Running {S} names legal after n states es = (i : ℕ) → i < n → (end : S) × Runs legal after (states i) (filter (names i) es) end

front : {S : Type 0} (names : ℕ → Event → Bool) (legal : S → Event → Type 0) (after : S → Event → S) (n : ℕ) (states : ℕ → S) (e : Event) (es : List Event)
    → Running names legal after n states (e ∷ es) → (i : ℕ) → i < n → names i e ≡ true → legal (states i) e
unfolding Running
front {S} names legal after n states e es runs i small own = of (names i e) own (runs i small).0 (runs i small).1
  where
    of : (t : Bool) → t ≡ true → (end : S) → Runs legal after (states i) (cond t (e ∷ filter (names i) es) (filter (names i) es)) end → legal (states i) e
    of true q end run = run.0
    of false q end run = absurd cc

behind : {S : Type 0} (names : ℕ → Event → Bool) (legal : S → Event → Type 0) (after : S → Event → S) (n : ℕ) (states : ℕ → S) (e : Event) (es : List Event)
    → Running names legal after n states (e ∷ es) → Running names legal after n (moved names after states e) es
unfolding Running
behind {S} names legal after n states e es runs i small = ((runs i small).0, of (names i e) (runs i small).0 (runs i small).1)
  where
    of : (t : Bool) (end : S) → Runs legal after (states i) (cond t (e ∷ filter (names i) es) (filter (names i) es)) end → Runs legal after (cond t (after (states i) e) (states i)) (filter (names i) es) end
    of true end run = run.1
    of false end run = run

all_split : (m : Machine) (ls rest : List Line) → AllHave m (ls ++ rest) → AllHave m ls × AllHave m rest
all_split m [] rest all = (tt, all)
all_split m (l ∷ ls) rest all = let more = all_split m ls rest all.1 in ((all.0, more.0), more.1)

playing : (work : Work) (n : ℕ) (first : Machine) (es : List Event) (m : Machine) (harts : ℕ → HartState) (spaces : ℕ → TableSpace) (shards : ℕ → ShardState)
    → HandlersStand first.seen → IsPlanned work → AllByRecursion (λ (e : Event). e.hart < n) es → AllHave first (all_lines es)
    → Running is_of_hart (acts work) (acted work) n harts es
    → Running (λ k e. holds (a_space k) e) (space_legal work) (space_after work) (length work.spaces) spaces es
    → Running (λ q e. holds (a_shard q) e) (shard_legal work) shard_after 32 shards es
    → Beside work n first m harts spaces shards
    → DoesAll m (effects_of (all_lines es))
playing work n first [] m harts spaces shards handlers planned members have runs space_runs shard_runs be = (m, refl)
playing work n first (e ∷ es) m harts spaces shards handlers planned members have runs space_runs shard_runs be =
    let split = all_split first e.lines (all_lines es) have in
    let given : Given work n first harts spaces shards e = record {
      small = members.0;
      shards_legal = front (λ q e. holds (a_shard q) e) (shard_legal work) shard_after 32 shards e es shard_runs;
      spaces_legal = front (λ k e. holds (a_space k) e) (space_legal work) (space_after work) (length work.spaces) spaces e es space_runs;
      have = split.0;
      handlers = handlers;
      planned = planned e.hart;
    } in
    of (event_goes work n first m harts spaces shards e given be (front is_of_hart (acts work) (acted work) n harts e es runs e.hart members.0 (eq-eqb e.hart e.hart refl)))
    (λ next. playing work n first es next (harts_after work harts e) (spaces_after work spaces e) (shards_after shards e) handlers planned members.1 split.1
    (behind is_of_hart (acts work) (acted work) n harts e es runs)
    (behind (λ k e. holds (a_space k) e) (space_legal work) (space_after work) (length work.spaces) spaces e es space_runs)
    (behind (λ q e. holds (a_shard q) e) (shard_legal work) shard_after 32 shards e es shard_runs))
  where
    of : Silent work n first m harts spaces shards e ⊎ Sounds work n first m harts spaces shards e
        → ((next : Machine) → Beside work n first next (harts_after work harts e) (spaces_after work spaces e) (shards_after shards e) → DoesAll next (effects_of (all_lines es)))
        → DoesAll m (effects_of (e.lines ++ all_lines es))
    of (inl quiet) more =
        let all : effects_of (e.lines ++ all_lines es) ≡ effects_of (all_lines es) = filter_map-append effect_of e.lines (all_lines es) ∙ ap (λ q. q ++ effects_of (all_lines es)) quiet.none in
        subst (DoesAll m) (sym all) (more m quiet.beside)
    of (inr does) more =
        let all : effects_of (e.lines ++ all_lines es) ≡ does.effect ∷ effects_of (all_lines es) = filter_map-append effect_of e.lines (all_lines es) ∙ ap (λ q. q ++ effects_of (all_lines es)) does.one in
        let s : Stepped = record { effect = does.effect; hart = does.next } in
        let rest = more (after_step m e.hart s) does.beside in
        subst (DoesAll m) (sym all)
        (rest.0, subst (λ h. Plays m (h ∷ order_of (effects_of (all_lines es))) (does.effect ∷ effects_of (all_lines es)) rest.0) (sym does.whose) (s, does.steps_so, refl, rest.1))

-- From one run of all harts and parts, the harts of every machine that has all do exactly what the step lines tell.
pub justified : (work : Work) (forest : Forest) (seed : ℕ) (events : List Event) → IsPlanned work → OneRun work forest seed events
    → (m : Machine) → HasAll work (all_lines events) m → DoesAll m (effects_of (all_lines events))
unfolding Running
justified work forest seed events planned run m has =
    playing work (hart_count work) m events m (start work seed) (λ k. opening_space work k) (λ q. opening_shard)
    has.handlers planned run.members has.fixed
    (λ h small. let r = run.harts h small in (r.end, r.run)) (λ k small. let r = run.parts.spaces k small in (r.contents, r.run)) (λ q small. let r = run.parts.shards q small in (r.contents, r.run))
    (record {
      over = λ h small. over_start work seed h (m.harts h) m.seen planned has.tables (has.harts h small);
      named = λ h small. refl;
      entries = has.tables;
      shared = record {
        low = λ a small. refl;
        high = λ a above. refl;
        links = λ h g. sym (has.links h g);
        small = has.bytes;
      };
    })
