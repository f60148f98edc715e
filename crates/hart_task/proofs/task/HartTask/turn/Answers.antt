-- A turn is one event of the hart's machine, or none where it is finished.
use Rattle.std.proofs.Common.{◌+◌, ◌-◌, ◌*◌, ◌∙◌, ap, arith, length, refl, subst, sym}
use Rattle.std.proofs.lemmas.Option.{same_Some}
use Rattle.region_plan.specs.Views.{request_seen, work_of}
use Rattle.hart_task.specs.Task.{Stands, TaskSeen, begun_lines, events_left, finished, of_end, of_handler, of_request, phase_left, script, task_event, task_seen}
use Rattle.hart_task.specs.Turn.{end_word}
use Rattle.hart_task.proofs.Beginning.{begun_ends, begun_seed, script_short, stands_begun}
use Rattle.hart_task.proofs.Begun.{drop_at}
use Rattle.hart_task.proofs.Found.{handler_word}
use Rattle.hart_task.proofs.Turns.{begun_left, few_drawn, may_end, may_handle, may_make, nearer_ended, nearer_handled, nearer_made, number_after, stands_ended, stands_handled, stands_made, turn_of}
use Rattle.hart_task.proofs.task.HartTask.turn.Goals as goal

pub end-requires-clause-plain : goal.end-requires-clause-plain
end-requires-clause-plain g c = (may_end (work_of c.args.job.now) (task_seen c.args.self.now) c.requires.rules c.requires.task c.in-Between.is).plain

pub end-requires-clause-zero : goal.end-requires-clause-zero
end-requires-clause-zero g c = same_Some _ _ (may_end (work_of c.args.job.now) (task_seen c.args.self.now) c.requires.rules c.requires.task c.in-Between.is).zero

pub end-requires-clause-in_ram : goal.end-requires-clause-in_ram
end-requires-clause-in_ram g c = (may_end (work_of c.args.job.now) (task_seen c.args.self.now) c.requires.rules c.requires.task c.in-Between.is).in_it

pub end-requires-clause-few : goal.end-requires-clause-few
end-requires-clause-few g c = let few = (may_end (work_of c.args.job.now) (task_seen c.args.self.now) c.requires.rules c.requires.task c.in-Between.is).few in omega (arith, few)

pub make-requires-clause-plain : goal.make-requires-clause-plain
make-requires-clause-plain g c = (may_make (work_of c.args.job.now) (task_seen c.args.self.now) c.in-Making.making c.requires.rules c.requires.task c.in-Making.is).plain

pub make-requires-clause-zero : goal.make-requires-clause-zero
make-requires-clause-zero g c = same_Some _ _ (may_make (work_of c.args.job.now) (task_seen c.args.self.now) c.in-Making.making c.requires.rules c.requires.task c.in-Making.is).zero

pub make-requires-clause-in_ram : goal.make-requires-clause-in_ram
make-requires-clause-in_ram g c = (may_make (work_of c.args.job.now) (task_seen c.args.self.now) c.in-Making.making c.requires.rules c.requires.task c.in-Making.is).in_it

pub make-requires-clause-few : goal.make-requires-clause-few
make-requires-clause-few g c = let few = (may_make (work_of c.args.job.now) (task_seen c.args.self.now) c.in-Making.making c.requires.rules c.requires.task c.in-Making.is).few in omega (arith, few)

pub handle-requires-clause-next : goal.handle-requires-clause-next
handle-requires-clause-next g c = (may_handle (work_of c.args.job.now) (task_seen c.args.self.now) c.in-Handling.handling c.requires.rules c.requires.task c.in-Handling.is).0

pub handle-requires-clause-plain : goal.handle-requires-clause-plain
handle-requires-clause-plain g c = (may_handle (work_of c.args.job.now) (task_seen c.args.self.now) c.in-Handling.handling c.requires.rules c.requires.task c.in-Handling.is).1.plain

pub handle-requires-clause-zero : goal.handle-requires-clause-zero
handle-requires-clause-zero g c = same_Some _ _ (may_handle (work_of c.args.job.now) (task_seen c.args.self.now) c.in-Handling.handling c.requires.rules c.requires.task c.in-Handling.is).1.zero

pub handle-requires-clause-in_ram : goal.handle-requires-clause-in_ram
handle-requires-clause-in_ram g c = (may_handle (work_of c.args.job.now) (task_seen c.args.self.now) c.in-Handling.handling c.requires.rules c.requires.task c.in-Handling.is).1.in_it

pub handle-requires-clause-few : goal.handle-requires-clause-few
handle-requires-clause-few g c = let few = (may_handle (work_of c.args.job.now) (task_seen c.args.self.now) c.in-Handling.handling c.requires.rules c.requires.task c.in-Handling.is).1.few in omega (arith, few)

pub returns-in_ok-place-in-Some-clause-task : goal.returns-in_ok-place-in-Some-clause-task
returns-in_ok-place-in-Some-clause-task g c =
    let t : TaskSeen = task_seen c.args.self.now in
    subst (Stands (work_of c.args.job.now)) (sym c.in_ok-place-in-Some.ensures.task)
    (stands_begun (work_of c.args.job.now) t c.in_ok-place-in-Some.place c.in-Some.request c.requires.rules c.requires.task c.in-Between.is c.in-Some.ensures)

pub begin-requires-clause-few : goal.begin-requires-clause-few
begin-requires-clause-few g c = let few = few_drawn (work_of c.args.job.now) (task_seen c.args.self.now) c.requires.rules c.requires.task in omega (arith, few)

pub begin-requires-clause-count : goal.begin-requires-clause-count
begin-requires-clause-count g c =
    let t : TaskSeen = task_seen c.args.self.now in
    let work = work_of c.args.job.now in
    let more = (drop_at (script work t.hart.number) t.begun _ c.in-Some.ensures).1 in
    let short = script_short work t.hart.number c.requires.rules c.requires.task.member in omega (arith, more, short)

pub returns-in_ok-place-in-Some-clause-seed : goal.returns-in_ok-place-in-Some-clause-seed
returns-in_ok-place-in-Some-clause-seed g c = ap (λ (t : TaskSeen). t.draws.seed) c.in_ok-place-in-Some.ensures.task ∙ begun_seed c.in-Some.request c.args.self.now.draws

pub returns-in_ok-place-in-Some-clause-turn : goal.returns-in_ok-place-in-Some-clause-turn
returns-in_ok-place-in-Some-clause-turn g c =
    let t : TaskSeen = task_seen c.args.self.now in (
      task_event t.hart.number (begun_lines t.hart.number t.begun (request_seen c.in-Some.request)),
      ap (λ (q : TaskSeen). q.log.events) c.in_ok-place-in-Some.ensures.task,
      refl,
      refl,
      begun_ends t.hart.number t.begun c.in-Some.request t.draws ∙ ap (λ (q : TaskSeen). finished q.phase) (sym c.in_ok-place-in-Some.ensures.task),
      c.in_ok-place-in-Some.ensures.commits,
      c.in_ok-place-in-Some.ensures.ranges,
    )

pub returns-in_ok-place-in-Some-clause-nearer : goal.returns-in_ok-place-in-Some-clause-nearer
returns-in_ok-place-in-Some-clause-nearer g c place same =
    let t : TaskSeen = task_seen c.args.self.now in
    let work = work_of c.args.job.now in
    let more = (drop_at (script work t.hart.number) t.begun _ c.in-Some.ensures).1 in
    let new = ap (events_left work) c.in_ok-place-in-Some.ensures.task in
    let old = ap (λ p. 8 * (length (script work t.hart.number) - t.begun) + phase_left p) c.in-Between.is in
    let left = begun_left c.in-Some.request t.begun t.draws in
    omega (arith, more, new, old, left)

pub returns-in_ok-place-in-None-clause-task : goal.returns-in_ok-place-in-None-clause-task
returns-in_ok-place-in-None-clause-task g c = stands_ended (work_of c.args.job.now) (task_seen c.args.self.now) (task_seen c.end.new.self) c.in_ok-place-in-None.place _ _ c.requires.rules c.requires.task c.in-Between.is c.in-None.ensures c.in_ok-place-in-None.ensures.steps

pub returns-in_ok-place-in-None-clause-number : goal.returns-in_ok-place-in-None-clause-number
returns-in_ok-place-in-None-clause-number g c = number_after (task_seen c.args.self.now) (task_seen c.end.new.self) of_end end_word c.in_ok-place-in-None.place _ _ c.in_ok-place-in-None.ensures.steps

pub returns-in_ok-place-in-None-clause-turn : goal.returns-in_ok-place-in-None-clause-turn
returns-in_ok-place-in-None-clause-turn g c = turn_of (task_seen c.args.self.now) (task_seen c.end.new.self) of_end end_word c.in_ok-place-in-None.place _ _ c.in_ok-place-in-None.ensures.steps

pub returns-in_ok-place-in-None-clause-nearer : goal.returns-in_ok-place-in-None-clause-nearer
returns-in_ok-place-in-None-clause-nearer g c place same = nearer_ended (work_of c.args.job.now) (task_seen c.args.self.now) (task_seen c.end.new.self) end_word c.in_ok-place-in-None.place _ _ c.in-Between.is c.in_ok-place-in-None.ensures.steps

pub returns-in_ok-place-in-Making-clause-task : goal.returns-in_ok-place-in-Making-clause-task
returns-in_ok-place-in-Making-clause-task g c = stands_made (work_of c.args.job.now) (task_seen c.args.self.now) (task_seen c.make.new.self) c.in-Making.making c.in_ok-place-in-Making.place _ _ c.requires.rules c.requires.task c.in-Making.is c.in_ok-place-in-Making.ensures.steps

pub returns-in_ok-place-in-Making-clause-number : goal.returns-in_ok-place-in-Making-clause-number
returns-in_ok-place-in-Making-clause-number g c = number_after (task_seen c.args.self.now) (task_seen c.make.new.self) (of_request c.in-Making.making.k) c.in-Making.making.word c.in_ok-place-in-Making.place _ _ c.in_ok-place-in-Making.ensures.steps

pub returns-in_ok-place-in-Making-clause-turn : goal.returns-in_ok-place-in-Making-clause-turn
returns-in_ok-place-in-Making-clause-turn g c = turn_of (task_seen c.args.self.now) (task_seen c.make.new.self) (of_request c.in-Making.making.k) c.in-Making.making.word c.in_ok-place-in-Making.place _ _ c.in_ok-place-in-Making.ensures.steps

pub returns-in_ok-place-in-Making-clause-nearer : goal.returns-in_ok-place-in-Making-clause-nearer
returns-in_ok-place-in-Making-clause-nearer g c place same = nearer_made (work_of c.args.job.now) (task_seen c.args.self.now) (task_seen c.make.new.self) c.in-Making.making c.in-Making.making.word c.in_ok-place-in-Making.place _ _ c.in-Making.is c.in_ok-place-in-Making.ensures.steps

pub returns-in_ok-place-in-Handling-clause-task : goal.returns-in_ok-place-in-Handling-clause-task
returns-in_ok-place-in-Handling-clause-task g c = stands_handled (work_of c.args.job.now) (task_seen c.args.self.now) (task_seen c.handle.new.self) c.in-Handling.handling c.in_ok-place-in-Handling.place _ _ c.requires.rules c.requires.task c.in-Handling.is c.in_ok-place-in-Handling.ensures.steps

pub returns-in_ok-place-in-Handling-clause-number : goal.returns-in_ok-place-in-Handling-clause-number
returns-in_ok-place-in-Handling-clause-number g c = number_after (task_seen c.args.self.now) (task_seen c.handle.new.self) (of_handler c.in-Handling.handling.k c.in-Handling.handling.next) (handler_word c.in-Handling.handling.next) c.in_ok-place-in-Handling.place _ _ c.in_ok-place-in-Handling.ensures.steps

pub returns-in_ok-place-in-Handling-clause-turn : goal.returns-in_ok-place-in-Handling-clause-turn
returns-in_ok-place-in-Handling-clause-turn g c = turn_of (task_seen c.args.self.now) (task_seen c.handle.new.self) (of_handler c.in-Handling.handling.k c.in-Handling.handling.next) (handler_word c.in-Handling.handling.next) c.in_ok-place-in-Handling.place _ _ c.in_ok-place-in-Handling.ensures.steps

pub returns-in_ok-place-in-Handling-clause-nearer : goal.returns-in_ok-place-in-Handling-clause-nearer
returns-in_ok-place-in-Handling-clause-nearer g c place same = nearer_handled (work_of c.args.job.now) (task_seen c.args.self.now) (task_seen c.handle.new.self) c.in-Handling.handling (handler_word c.in-Handling.handling.next) c.in_ok-place-in-Handling.place _ _ c.in-Handling.is (may_handle (work_of c.args.job.now) (task_seen c.args.self.now) c.in-Handling.handling c.requires.rules c.requires.task c.in-Handling.is).0 c.in_ok-place-in-Handling.ensures.steps
