-- All harts before their first events.
use Rattle.std.proofs.Common.{ℕ, suc, ◌+◌, ◌*◌, ◌≤◌, ◌≡◌, ◌⊎◌, inl, inr, List, [], ◌∷◌, ◌++◌, Some, ap, arith, length, map, refl, subst, sym, ◌∙◌}
use Rattle.std.specs.Prelude.{slice_get, sum_by}
use Rattle.std.proofs.lemmas.List.{length-append, length-map, map-append}
use Rattle.std.proofs.lemmas.List.Sums.{sum_by-cons}
use Rattle.rv_fields.proofs.Lists.{get_of_more}
use Rattle.region_plan.specs.Plan.{Work, hart_count}
use Rattle.region_plan.specs.Rules.{KeepsRules, most_requests}
use Rattle.hart_task.specs.declared.task.HartTask.{HartTask}
use Rattle.hart_task.specs.declared.task.Phase as task
use Rattle.hart_task.specs.declared.task.Phase.TheVariants as tasks
use Rattle.hart_task.specs.Task.{IsTaskOf, Stands, TaskSeen, events_left, phase_left, task_seen}
use Rattle.hart_task.proofs.Beginning.{script_short}
use Rattle.serial_world.specs.Running.{IsHartOf, Running}
use Rattle.serial_world.proofs.Ending.{begins_unfinished}

-- ---- no more events are left than there are places

phase_few : (phase : task.Phase) → phase_left phase ≤ 8
phase_few tasks.Between = omega arith
phase_few (tasks.Making m) = omega arith
phase_few (tasks.Handling g) = omega arith
phase_few tasks.Finished = omega arith

-- eight for each request, and those of the phase
abbrev most_left : ℕ
most_left = 8 * most_requests + 8

left_few : (work : Work) (t : TaskSeen) → KeepsRules work → Stands work t → events_left work t ≤ most_left
left_few work t keeps stands = let short = script_short work t.hart.number keeps stands.member in let few = phase_few t.phase in omega (arith, short, few)

all_few : (work : Work) (all : List TaskSeen) → ((h : ℕ) (t : TaskSeen) → slice_get all h ≡ Some t → events_left work t ≤ most_left) → sum_by (events_left work) all ≤ most_left * length all
all_few work [] few = omega arith
all_few work (t ∷ all) few =
    let here = few 0 t refl in
    let there = all_few work all (λ h t at. few (suc h) t at) in
    let sum = sum_by-cons (events_left work) t all in
    omega (arith, here, there, sum)

-- ---- the tasks so far

-- so many harts stand before their first events
pub record Begun (work : Work) (seed : ℕ) (tasks : List HartTask) (count : ℕ) : Type 0 where
  pub many : length tasks ≡ count
  pub harts : (h : ℕ) (t : TaskSeen) → slice_get (map task_seen tasks) h ≡ Some t → IsHartOf work seed [] h t

pub none_begun : (work : Work) (seed : ℕ) → Begun work seed [] 0
none_begun work seed = record { many = refl; harts = λ h t at. cc }

pub one_begun : (work : Work) (seed h : ℕ) (tasks : List HartTask) (t : HartTask) → Begun work seed tasks h → IsTaskOf work t → t.hart.number ≡ h → t.draws.seed ≡ seed → (task_seen t).log.events ≡ []
    → Begun work seed (tasks ++ t ∷ []) (h + 1)
one_begun work seed h tasks t begun stands number same_seed none = record {
  many = let more = length-append tasks (t ∷ []) in omega (arith, more, begun.many);
  harts = λ k s at. hart k s (get_of_more (map task_seen tasks) (task_seen t) k s (ap (λ l. slice_get l k) (sym (map-append task_seen tasks (t ∷ []))) ∙ at));
}
  where
    hart : (k : ℕ) (s : TaskSeen) → (slice_get (map task_seen tasks) k ≡ Some s) ⊎ ((k ≡ length (map task_seen tasks)) × (task_seen t ≡ s)) → IsHartOf work seed [] k s
    hart k s (inl there) = begun.harts k s there
    hart k s (inr here) =
        let place : h ≡ k = sym begun.many ∙ sym (length-map tasks task_seen) ∙ sym here.0 in
        let new : IsHartOf work seed [] h (task_seen t) = record { task = stands; number = number; drawn_by = same_seed; log = none; ended = begins_unfinished work (task_seen t) stands none } in
        subst (λ n. IsHartOf work seed [] n s) place (subst (IsHartOf work seed [] h) here.1 new)

pub all_begun : (work : Work) (seed : ℕ) (tasks : List HartTask) → KeepsRules work → Begun work seed tasks (hart_count work) → Running work seed (map task_seen tasks) 0 []
all_begun work seed tasks keeps begun =
    let many : length (map task_seen tasks) ≡ hart_count work = length-map tasks task_seen ∙ begun.many in
    let few = all_few work (map task_seen tasks) (λ h t at. left_few work t keeps (begun.harts h t at).task) in
    record {
      count = many;
      members = tt;
      parts = tt;
      ranges = tt;
      tasks = begun.harts;
      place = refl;
      room = omega (arith, few, many, keeps.most);
    }
