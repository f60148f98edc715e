-- What finished harts leave.
use Rattle.std.proofs.Common.{ℕ, zero, suc, ◌<◌, ◌≡◌, true, List, [], ◌∷◌, Some, arith, map, refl, subst, ◌∙◌}
use Rattle.std.specs.List.{AllByRecursion}
use Rattle.std.specs.Prelude.{slice_get}
use Rattle.std.proofs.lemmas.List.{length-map}
use Rattle.std.proofs.lemmas.Option.{slice_get_within}
use Rattle.rv_fields.proofs.Lists.{each_at}
use Rattle.region_plan.specs.Plan.{Work, hart_count}
use Rattle.region_plan.specs.Rules.{KeepsRules}
use Rattle.world_face.specs.Events.{Event}
use Rattle.hart_task.specs.declared.task.Phase as task
use Rattle.hart_task.specs.declared.task.Phase.TheVariants as tasks
use Rattle.hart_task.specs.Log.{LogSeen}
use Rattle.hart_task.specs.Schedule.{has_ended}
use Rattle.hart_task.specs.Task.{IsLogOf, TaskSeen, finished}
use Rattle.hart_task.proofs.Starting.{log_of}
use Rattle.hart_task.specs.Logs.{AreLogsOf}
use Rattle.serial_world.specs.Running.{Running}
use Rattle.serial_world.specs.World.{placed_of}

abbrev pub AllEnded : ℕ → List Event → Type 0
AllEnded harts events = (h : ℕ) → h < harts → has_ended events h ≡ true

pub is_at_end : (phase : task.Phase) → finished phase ≡ true → phase ≡ tasks.Finished
is_at_end tasks.Between is = cc
is_at_end (tasks.Making m) is = cc
is_at_end (tasks.Handling g) is = cc
is_at_end tasks.Finished is = refl

ended_task : (work : Work) (seed next : ℕ) (all : List TaskSeen) (events : List Event) (h : ℕ) (t : TaskSeen) → Running work seed all next events → AllEnded (hart_count work) events → slice_get all h ≡ Some t
    → finished t.phase ≡ true
ended_task work seed next all events h t runs ended at = (runs.tasks h t at).ended ∙ ended h (omega (arith, slice_get_within all h t at, runs.count))

all_from : {A : Type 0} (P : A → Type 0) (xs : List A) → ((i : ℕ) (x : A) → slice_get xs i ≡ Some x → P x) → AllByRecursion P xs
all_from P [] each = tt
all_from P (x ∷ xs) each = (each 0 x refl, all_from P xs (λ i y at. each (suc i) y at))

pub all_at_end : (work : Work) (seed next : ℕ) (all : List TaskSeen) (events : List Event) → Running work seed all next events → AllEnded (hart_count work) events
    → AllByRecursion (λ (t : TaskSeen). finished t.phase ≡ true) all
all_at_end work seed next all events runs ended = all_from (λ (t : TaskSeen). finished t.phase ≡ true) all (λ h t at. ended_task work seed next all events h t runs ended at)

-- the task whose log it is
found_in : (all : List TaskSeen) (h : ℕ) (log : LogSeen) → slice_get (map (λ (t : TaskSeen). t.log) all) h ≡ Some log → (t : TaskSeen) × (slice_get all h ≡ Some t) × (t.log ≡ log)
found_in [] h log at = cc
found_in (t ∷ all) zero log at = let same : t.log ≡ log = cc in (t, refl, same)
found_in (t ∷ all) (suc h) log at = found_in all h log at

pub logs_left : (work : Work) (seed next : ℕ) (all : List TaskSeen) (events : List Event) → KeepsRules work → Running work seed all next events → AllEnded (hart_count work) events
    → AreLogsOf work seed (map (λ (t : TaskSeen). t.log) all) events
logs_left work seed next all events keeps runs ended = record {
  count = length-map all (λ (t : TaskSeen). t.log) ∙ runs.count;
  members = runs.members;
  parts = runs.parts;
  ranges = runs.ranges;
  by_place = λ h log at. let f = found_in all h log at in subst (λ (l : LogSeen). l.events ≡ placed_of h events) f.2 (runs.tasks h f.0 f.1).log;
  logs_are = λ h log at. is_log h log (found_in all h log at);
}
  where
    is_log : (h : ℕ) (log : LogSeen) → (t : TaskSeen) × (slice_get all h ≡ Some t) × (t.log ≡ log) → IsLogOf work seed h log
    is_log h log f =
        let t : TaskSeen = f.0 in
        let its = runs.tasks h t f.1 in
        let end : t.phase ≡ tasks.Finished = is_at_end t.phase (ended_task work seed next all events h t runs ended f.1) in
        let own : IsLogOf work t.draws.seed t.hart.number t.log = log_of work t keeps its.task end in
        subst (IsLogOf work seed h) f.2 (subst (λ n. IsLogOf work seed n t.log) its.number (subst (λ s. IsLogOf work s t.hart.number t.log) its.drawn_by own))

pub finished_at : (all : List TaskSeen) (i : ℕ) (t : TaskSeen) → AllByRecursion (λ (t : TaskSeen). finished t.phase ≡ true) all → slice_get all i ≡ Some t → t.phase ≡ tasks.Finished
finished_at all i t ended at = is_at_end t.phase (each_at (λ (t : TaskSeen). finished t.phase ≡ true) all i t ended at)
