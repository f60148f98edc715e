-- A word of the handler is stepped and told.
use Rattle.std.proofs.Common.{ℕ, ◌≡◌, ◌+◌, ◌++◌, ◌∷◌, [], ◌∙◌, true, false, Some, None, ap, cond, eqb, ne_eqb, eq-eqb, sym, subst}
use Rattle.std.specs.Prelude.{slice_index}
use Rattle.rv_fields.specs.Effect.{Effect}
use Rattle.trace_text.specs.Lines as told
use Rattle.trace_text.specs.Views.{step_seen}
use Rattle.world_face.specs.Events.{Event}
use Rattle.world_face.specs.Views.{event_seen}
use Rattle.rv_step.specs.Views.{hart_seen}
use Rattle.hart_task.specs.declared.task.Phase.TheVariants as tasks
use Rattle.hart_task.specs.Plain.{IsPlainFor}
use Rattle.hart_task.specs.Task.{Moves, Steps, TaskSeen, Whose, of_handler, task_seen, with_event}
use Rattle.hart_task.proofs.Telling.{IsToldOf, goes_on_from, moved_number, steps_of, told_done, told_open}
use Rattle.hart_task.proofs.task.HartTask.handle.Goals.{else-handling-eq-LAST_HANDLER_WORD, then-handling-eq-LAST_HANDLER_WORD}
use Rattle.hart_task.proofs.task.HartTask.handle.Goals as goal

pub step-requires-clause-plain : goal.step-requires-clause-plain
step-requires-clause-plain g c = subst (λ words. IsPlainFor (hart_seen c.args.self.now.hart) (slice_index words c.args.handling.next)) (sym c.handler.ensures) c.requires.plain

pub done-requires : goal.done-requires
done-requires g c = c.add.ensures.room 1 c.in_ok-event.ensures.lines

pub returns-clause-steps : goal.returns-clause-steps
returns-clause-steps g c =
    let old : TaskSeen = task_seen c.args.self.now in
    let moved : TaskSeen = task_seen c.step.new.self in
    let k : ℕ = c.args.handling.k in
    let next : ℕ = c.args.handling.next in
    let whose : Whose = of_handler k next in
    let word : ℕ = slice_index c.handler.result next in
    let effect : Effect = step_seen c.in_ok-event.step in
    let event : Event = event_seen c.if-handling-eq-LAST_HANDLER_WORD.event in
    let moves : Moves word old moved effect = c.in_ok-event.ensures.moves in
    let words = ap (λ (t : TaskSeen). t.log.words) moves.task in
    let told_so : event_seen c.add.new.self ≡ record (event_seen c.in_ok-event.event) { lines = (event_seen c.in_ok-event.event).lines ++ told.found effect ∷ [] } = c.add.ensures.event in
    let found = told_so ∙ ap (λ (e : Event). record e { lines = e.lines ++ told.found effect ∷ [] }) c.in_ok-event.ensures.event in
    let both : (task_seen c.if-handling-eq-LAST_HANDLER_WORD.self ≡ goes_on_from whose word old moved effect) × IsToldOf whose word old effect event = elim c.if-handling-eq-LAST_HANDLER_WORD.branch [
      | then-handling-eq-LAST_HANDLER_WORD w ↦
          let last : eqb next 5 ≡ true = eq-eqb next 5 w.if-handling-eq-LAST_HANDLER_WORD.true in (
            ap task_seen w.self-is ∙ w.done.ensures.task
                ∙ (λ i. record moved { phase = sym (ap (λ t. cond t tasks.Between (tasks.Handling (record { k = k; next = next + 1 }))) last) i; log = record moved.log { words = words i } }),
            told_done whose word k old effect event (ap (λ t. cond t (Some k) None) last)
                (ap event_seen w.event-is ∙ w.done.ensures.event ∙ (λ i. record (found i) { lines = (found i).lines ++ told.done (moved_number word old moved effect moves i) k ∷ [] }))
                c.in_ok-event.ensures.ranges c.in_ok-event.ensures.told w.done.ensures.ranges,
          )
      | else-handling-eq-LAST_HANDLER_WORD w ↦
          let other : eqb next 5 ≡ false = ne_eqb next 5 w.if-handling-eq-LAST_HANDLER_WORD.false in (
            ap task_seen w.self-is
                ∙ (λ i. record moved { phase = sym (ap (λ t. cond t tasks.Between (tasks.Handling (record { k = k; next = next + 1 }))) other) i; log = record moved.log { words = words i } }),
            told_open whose word old effect event (ap (λ t. cond t (Some k) None) other) (ap event_seen w.event-is ∙ found) c.in_ok-event.ensures.ranges c.in_ok-event.ensures.told,
          )
    ] in
    subst (λ words. Steps whose (slice_index words next) old (task_seen c.commit.new.self) c.commit.result (g.W.World.stands c.args.world.now) (g.W.World.stands c.commit.new.world)) c.handler.ensures
    (steps_of whose word c.commit.result old moved (task_seen c.commit.new.self) effect event (g.W.World.stands c.args.world.now) (g.W.World.stands c.commit.new.world) moves both.1
    (c.commit.ensures.task ∙ ap (λ (t : TaskSeen). record t { log = with_event t.log c.commit.result event }) both.0) c.commit.ensures.commits)
