-- A step, and the event that tells of it.
use Rattle.std.proofs.Common.{ℕ, ◌≡◌, true, false, List, [], ◌∷◌, ◌++◌, Option, Some, None, refl, sym, ap, subst, ◌∙◌, append_assoc}
use Rattle.std.specs.Prelude.{is_some}
use Rattle.std.specs.List.{AllByRecursion}
use Rattle.std.specs.Option.{option_map_or}
use Rattle.rv_fields.specs.Decode.{decoded}
use Rattle.rv_fields.specs.Effect.{Effect}
use Rattle.rv_fields.proofs.Opened.{step_leaves}
use Rattle.trace_fields.proofs.Joins.{all_append}
use Rattle.trace_text.specs.Lines.{Line, done}
use Rattle.trace_text.specs.Traces.{KeepsRanges}
use Rattle.world_face.specs.Events.{Event, Placed}
use Rattle.hart_task.specs.Acts.{fixing_lines, step_line}
use Rattle.hart_task.specs.Bus.{word_seen}
use Rattle.hart_task.specs.Task.{Commits, Moves, Steps, TaskSeen, Whose, came_by, done_by, fixed_task, late_of, phase_by, stepped_task, task_event, told_lines, with_event, words_by}

-- the lines of what is fixed late, which come first
abbrev pub late_lines : TaskSeen → ℕ → List Line
late_lines old word = fixing_lines old.hart.number (late_of old (decoded word))

-- the task that has stepped the word, and goes on
abbrev pub goes_on_from : Whose → ℕ → TaskSeen → TaskSeen → Effect → TaskSeen
goes_on_from whose word old moved e = record moved { phase = phase_by whose e.trap; log = record moved.log { words = words_by whose old.log.words word } }

-- the event tells of it
pub record IsToldOf (whose : Whose) (word : ℕ) (old : TaskSeen) (effect : Effect) (event : Event) : Type 0 where
  pub event_is : event ≡ task_event old.hart.number (told_lines old.hart.number whose (late_of old (decoded word)) effect)
  pub ranged : AllByRecursion KeepsRanges (told_lines old.hart.number whose (late_of old (decoded word)) effect)

-- the request goes on
pub told_open : (whose : Whose) (word : ℕ) (old : TaskSeen) (effect : Effect) (event : Event) → done_by whose effect.trap ≡ None
    → event ≡ task_event old.hart.number (late_lines old word ++ step_line (came_by whose) effect ∷ []) → AllByRecursion KeepsRanges (late_lines old word) → KeepsRanges (step_line (came_by whose) effect)
    → IsToldOf whose word old effect event
told_open whose word old effect event none is late own =
    let rest : option_map_or (λ (k : ℕ). done old.hart.number k ∷ []) (done_by whose effect.trap) [] ≡ [] = ap (λ ends. option_map_or (λ (k : ℕ). done old.hart.number k ∷ []) ends []) none in
    record {
      event_is = is ∙ ap (λ ls. task_event old.hart.number (late_lines old word ++ (step_line (came_by whose) effect ∷ ls))) (sym rest);
      ranged = subst (λ ls. AllByRecursion KeepsRanges (late_lines old word ++ (step_line (came_by whose) effect ∷ ls))) (sym rest) (all_append KeepsRanges (late_lines old word) _ late (own, tt));
    }

-- or it is done
pub told_done : (whose : Whose) (word k : ℕ) (old : TaskSeen) (effect : Effect) (event : Event) → done_by whose effect.trap ≡ Some k
    → event ≡ task_event old.hart.number ((late_lines old word ++ step_line (came_by whose) effect ∷ []) ++ done old.hart.number k ∷ []) → AllByRecursion KeepsRanges (late_lines old word)
    → KeepsRanges (step_line (came_by whose) effect) → KeepsRanges (done old.hart.number k) → IsToldOf whose word old effect event
told_done whose word k old effect event some is late own last =
    let rest : option_map_or (λ (k : ℕ). done old.hart.number k ∷ []) (done_by whose effect.trap) [] ≡ done old.hart.number k ∷ [] = ap (λ ends. option_map_or (λ (k : ℕ). done old.hart.number k ∷ []) ends []) some in
    record {
      event_is = is ∙ ap (task_event old.hart.number) (append_assoc (late_lines old word) (step_line (came_by whose) effect ∷ []) (done old.hart.number k ∷ []))
          ∙ ap (λ ls. task_event old.hart.number (late_lines old word ++ (step_line (came_by whose) effect ∷ ls))) (sym rest);
      ranged = subst (λ ls. AllByRecursion KeepsRanges (late_lines old word ++ (step_line (came_by whose) effect ∷ ls))) (sym rest)
          (all_append KeepsRanges (late_lines old word) _ late (own, (last, tt)));
    }

-- The word was stepped, and the event of it took this place.
pub steps_of : (whose : Whose) (word place : ℕ) (old moved new : TaskSeen) (effect : Effect) (event : Event) (before now : List Placed → Type 0) → Moves word old moved effect
    → IsToldOf whose word old effect event → new ≡ record (goes_on_from whose word old moved effect) { log = with_event (goes_on_from whose word old moved effect).log place event }
    → Commits place event before now → Steps whose word old new place before now
steps_of whose word place old moved new effect event before now moves told is commits = record {
  effect = effect;
  does = moves.does ∙ ap (λ hart. Some (record { effect = effect; hart = hart })) hart_is;
  task = is ∙ (λ i. record (goes_on_from whose word old (moves.task i) effect) { log = with_event (goes_on_from whose word old (moves.task i) effect).log place (told.event_is i) })
      ∙ ap (stepped_task old whose word (late_of old (decoded word)) place effect) hart_is;
  ranged = told.ranged;
  commits = subst (λ e. Commits place e before now) told.event_is commits;
}
  where
    hart_is : moved.hart ≡ new.hart
    hart_is = sym (ap (λ (t : TaskSeen). t.hart) is)

-- the hart stays the same
pub moved_number : (word : ℕ) (old moved : TaskSeen) (effect : Effect) → Moves word old moved effect → moved.hart.number ≡ old.hart.number
moved_number word old moved effect moves = (step_leaves (word_seen old.hart.pc word) (fixed_task old (late_of old (decoded word))).hart (record { effect = effect; hart = moved.hart }) moves.does).number

-- ---- whether it took a trap

pub some_in : {A : Type 0} (m : Option A) → is_some m ≡ true → (a : A) × (m ≡ Some a)
some_in None is = absurd cc
some_in (Some a) is = (a, refl)

pub none_in : {A : Type 0} (m : Option A) → is_some m ≡ false → m ≡ None
none_in None is = refl
none_in (Some a) is = absurd cc
