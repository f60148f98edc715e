-- The word of a request is stepped and told.
use Rattle.std.proofs.Common.{ℕ, ◌≡◌, ◌++◌, ◌∷◌, [], ◌∙◌, ap, sym}
use Rattle.rv_fields.specs.Effect.{Effect}
use Rattle.trace_text.specs.Lines as told
use Rattle.trace_text.specs.Views.{step_seen}
use Rattle.world_face.specs.Events.{Event}
use Rattle.world_face.specs.Views.{event_seen}
use Rattle.hart_task.specs.Log.{log_seen}
use Rattle.hart_task.specs.Task.{Moves, TaskSeen, Whose, done_by, of_request, phase_by, task_seen, with_event}
use Rattle.hart_task.proofs.Telling.{IsToldOf, goes_on_from, moved_number, none_in, some_in, steps_of, told_done, told_open}
use Rattle.hart_task.proofs.task.HartTask.make.Goals.{else-is_trapped, then-is_trapped}
use Rattle.hart_task.proofs.task.HartTask.make.Goals as goal

pub done-requires : goal.done-requires
done-requires g c = c.add.ensures.room 1 c.in_ok-event.ensures.lines

pub returns-clause-steps : goal.returns-clause-steps
returns-clause-steps g c =
    let old : TaskSeen = task_seen c.args.self.now in
    let moved : TaskSeen = task_seen c.step.new.self in
    let k : ℕ = c.args.making.k in
    let whose : Whose = of_request k in
    let word : ℕ = c.args.making.word in
    let effect : Effect = step_seen c.in_ok-event.step in
    let event : Event = event_seen c.if-is_trapped.event in
    let moves : Moves word old moved effect = c.in_ok-event.ensures.moves in
    let log : log_seen c.add_word.new.self ≡ (goes_on_from whose word old moved effect).log =
    c.add_word.ensures.added ∙ ap (λ words. record moved.log { words = words ++ word ∷ [] }) (ap (λ (t : TaskSeen). t.log.words) moves.task) in
    let told_so : event_seen c.add.new.self ≡ record (event_seen c.in_ok-event.event) { lines = (event_seen c.in_ok-event.event).lines ++ told.made effect ∷ [] } = c.add.ensures.event in
    let made = told_so ∙ ap (λ (e : Event). record e { lines = e.lines ++ told.made effect ∷ [] }) c.in_ok-event.ensures.event in
    let both : (task_seen c.if-is_trapped.self ≡ goes_on_from whose word old moved effect) × IsToldOf whose word old effect event = elim c.if-is_trapped.branch [
      | then-is_trapped w ↦
          let trap = some_in effect.trap (sym c.is_some-is_trapped.ensures ∙ w.if-is_trapped.true) in (
            ap task_seen w.self-is ∙ (λ i. record moved { phase = sym (ap (phase_by whose) trap.1) i; log = log i }),
            told_open whose word old effect event (ap (done_by whose) trap.1) (ap event_seen w.event-is ∙ made) c.in_ok-event.ensures.ranges c.in_ok-event.ensures.told,
          )
      | else-is_trapped w ↦
          let none = none_in effect.trap (sym c.is_some-is_trapped.ensures ∙ w.if-is_trapped.false) in (
            ap task_seen w.self-is ∙ w.done.ensures.task ∙ (λ i. record moved { phase = sym (ap (phase_by whose) none) i; log = log i }),
            told_done whose word k old effect event (ap (done_by whose) none)
                (ap event_seen w.event-is ∙ w.done.ensures.event ∙ (λ i. record (made i) { lines = (made i).lines ++ told.done (moved_number word old moved effect moves i) k ∷ [] }))
                c.in_ok-event.ensures.ranges c.in_ok-event.ensures.told w.done.ensures.ranges,
          )
    ] in
    steps_of whose word c.commit.result old moved (task_seen c.commit.new.self) effect event (g.W.World.stands c.args.world.now) (g.W.World.stands c.commit.new.world) moves both.1
    (c.commit.ensures.task ∙ ap (λ (t : TaskSeen). record t { log = with_event t.log c.commit.result event }) both.0) c.commit.ensures.commits
