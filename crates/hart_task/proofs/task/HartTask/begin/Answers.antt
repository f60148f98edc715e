-- A request begins: its word is drawn, or it is refused.
use Rattle.std.proofs.Common.{ℕ, ◌+◌, ap, ◌∙◌, ◌≡◌, ◌++◌, ◌∷◌, []}
use Rattle.region_plan.specs.Views.{request_seen}
use Rattle.trace_fields.specs.declared.request.Cause.TheVariants.{NoRegister}
use Rattle.trace_text.specs.Lines as told
use Rattle.world_face.specs.Events.{Event}
use Rattle.world_face.specs.Views.{event_seen}
use Rattle.hart_task.specs.Acts.{request_kind}
use Rattle.hart_task.specs.Log.{log_seen}
use Rattle.hart_task.specs.Task.{TaskSeen, task_event, task_seen, with_event}
use Rattle.hart_task.proofs.Beginning.{begun_made, begun_refused}
use Rattle.hart_task.proofs.task.HartTask.begin.Goals.{in-Ok, in-Err}
use Rattle.hart_task.proofs.task.HartTask.begin.Goals as goal

pub add-requires-in-Err : goal.add-requires-in-Err
add-requires-in-Err g c = c.add.ensures.room 1 c.in_ok-event.ensures.room

pub returns-clause-task : goal.returns-clause-task
returns-clause-task g c =
    let t : TaskSeen = task_seen c.args.self.now in
    let h : ℕ = t.hart.number in
    let place : ℕ = c.commit.result in
    let kind = request_kind (request_seen c.args.request) in
    let log : log_seen c.reserve.new.self ≡ t.log = c.in_ok-reserve.ensures.same in
    let begins : event_seen c.add.new.self ≡ task_event h (told.request h t.begun kind ∷ []) =
    c.add.ensures.event ∙ (λ i. record (c.in_ok-event.ensures.event i) { lines = (c.in_ok-event.ensures.event i).lines ++ told.request h t.begun (c.kind_of.ensures i) ∷ [] }) in
    c.commit.ensures.task ∙ elim c.match-word_of.branch [
      | in-Ok w ↦
          (λ i. record t { phase = w.self-is i; begun = t.begun + 1; draws = c.word_of.new.words; log = with_event (log i) place ((ap event_seen w.event-is ∙ begins) i) })
          ∙ begun_made t c.args.request place (record { word = w.in-Ok.word; left = c.word_of.new.words }) w.in-Ok.ensures.served w.in-Ok.ensures.drawn
      | in-Err w ↦
          let refused = ap event_seen w.event-is ∙ w.add-in-Err.ensures.event ∙ ap (λ (e : Event). record e { lines = e.lines ++ told.refused h t.begun NoRegister 0 ∷ [] }) begins in
          (λ i. record t { phase = w.self-is i; begun = t.begun + 1; draws = w.in-Err.ensures.undrawn i; log = with_event (log i) place (refused i) })
          ∙ begun_refused t c.args.request place w.in-Err.ensures.served
    ]
