-- A finished hart does no more, and one that begins isn't finished.
use Rattle.std.proofs.Common.{◌≡◌, false, List, [], ◌∷◌, ◌++◌, refl, sym, ap, subst, ◌∙◌}
use Rattle.region_plan.specs.Plan.{Work}
use Rattle.world_face.specs.Events.{Event, Placed}
use Rattle.world_face.specs.Runs.{Runs}
use Rattle.hart_task.specs.declared.task.Phase as task
use Rattle.hart_task.specs.declared.task.Phase.TheVariants as tasks
use Rattle.hart_task.specs.Heard.{heard_of}
use Rattle.hart_task.specs.Log.{events_of}
use Rattle.hart_task.specs.OneRun.{RunsTo}
use Rattle.hart_task.specs.State.{HartState, Phase, between}
use Rattle.hart_task.specs.Task.{Stands, TaskSeen, finished, phase_seen, state_of}
use Rattle.hart_task.specs.Turn.{acts, is_of, turned_in}
use Rattle.hart_task.proofs.Turning.{events_more}

-- behind a run the line that follows is legal
runs_last : {S L : Type 0} (legal : S → L → Type 0) (after : S → L → S) (old mid new : S) (lines : List L) (line : L) → Runs legal after old lines mid
    → Runs legal after old (lines ++ line ∷ []) new → legal mid line
runs_last legal after old mid new [] line run more = subst (λ s. legal s line) (sym run) more.0
runs_last legal after old mid new (l ∷ lines) line run more = runs_last legal after (after old l) mid new lines line run.1 more.1

-- what acts isn't finished
acts_unfinished : (work : Work) (s : HartState) (e : Event) (phase : task.Phase) → s.phase ≡ phase_seen phase → acts work s e → finished phase ≡ false
acts_unfinished work s e tasks.Between is does = refl
acts_unfinished work s e (tasks.Making m) is does = refl
acts_unfinished work s e (tasks.Handling g) is does = refl
acts_unfinished work s e tasks.Finished is does = absurd (subst (λ (p : Phase). is_of work s.hart.number e (turned_in work s (heard_of e) p)) is does)

pub was_unfinished : (work : Work) (old new : TaskSeen) (p : Placed) → Stands work old → Stands work new → new.hart.number ≡ old.hart.number → new.draws.seed ≡ old.draws.seed
    → new.log.events ≡ old.log.events ++ p ∷ [] → finished old.phase ≡ false
was_unfinished work old new p stood stands number seed log =
    let h = old.hart.number in
    let events : events_of new.log.events ≡ events_of old.log.events ++ p.event ∷ [] = ap events_of log ∙ events_more old.log.events p in
    let by_hart : RunsTo work new.draws.seed h (events_of new.log.events) (state_of work new) = subst (λ n. RunsTo work new.draws.seed n (events_of new.log.events) (state_of work new)) number stands.run in
    let by_seed : RunsTo work old.draws.seed h (events_of new.log.events) (state_of work new) = subst (λ s. RunsTo work s h (events_of new.log.events) (state_of work new)) seed by_hart in
    let run : RunsTo work old.draws.seed h (events_of old.log.events ++ p.event ∷ []) (state_of work new) = subst (λ l. RunsTo work old.draws.seed h l (state_of work new)) events by_seed in
    acts_unfinished work (state_of work old) p.event old.phase refl (runs_last _ _ _ (state_of work old) _ (events_of old.log.events) p.event stood.run run)

-- ---- before the first event

is_between : (phase : task.Phase) → phase_seen phase ≡ between → finished phase ≡ false
is_between tasks.Between is = refl
is_between (tasks.Making m) is = refl
is_between (tasks.Handling g) is = refl
is_between tasks.Finished is = cc

pub begins_unfinished : (work : Work) (t : TaskSeen) → Stands work t → t.log.events ≡ [] → finished t.phase ≡ false
begins_unfinished work t stands none =
    let run : RunsTo work t.draws.seed t.hart.number [] (state_of work t) = subst (λ l. RunsTo work t.draws.seed t.hart.number (events_of l) (state_of work t)) none stands.run in
    is_between t.phase (ap (λ (s : HartState). s.phase) run)
