-- Each word gives one of those that are left its turn.
use Rattle.std.proofs.Common.{ℕ, ◌%◌, ◌≡◌, ◌∙◌, List, [], ap, arith, map, subst, sym, vec_len}
use Rattle.std.specs.List.{range_with_len}
use Rattle.std.proofs.lemmas.Bool.{eqb-true}
use Rattle.std.proofs.lemmas.List.{length-map, nil_from_length}
use Rattle.std.proofs.lemmas.Result.{IfOk-weaker}
use Rattle.region_plan.specs.Plan.{hart_count}
use Rattle.region_plan.specs.Views.{work_of}
use Rattle.world_face.specs.Events.{Event}
use Rattle.hart_task.specs.Log.{LogSeen, log_seen}
use Rattle.hart_task.specs.Schedule.{FollowsSeed}
use Rattle.hart_task.specs.Task.{task_seen}
use Rattle.hart_task.specs.Logs.{AreLogsOf}
use Rattle.serial_world.specs.Running.{logs_kept, tasks_seen}
use Rattle.serial_world.proofs.Drawn.{DrawnSoFar, all_drawn, drawn_last, drawn_nearer, drawn_on, drew, its_number, its_place, none_drawn}
use Rattle.serial_world.proofs.Leaving.{all_at_end, logs_left}
use Rattle.serial_world.proofs.serial.run_drawn.Goals as goal

pub turns-init : goal.turns-init
turns-init c =
    let work = work_of c.args.job.now in
    let all : c.in_ok-unfinished.unfinished.items ≡ range_with_len 0 (hart_count work) = c.in_ok-unfinished.ensures ∙ ap (range_with_len 0) c.hart_count.ensures in
    none_drawn work c.args.seed c.in_ok-harts.harts c.in_ok-unfinished.unfinished.items c.new-draws.result c.in_ok-harts.ensures all c.new-draws.ensures

-- ---- a turn

pub turn-requires-clause-member : goal.turn-requires-clause-member
turn-requires-clause-member c =
    let at = its_place c.turns.unfinished.items (vec_len c.turns.unfinished) c.next.result c.len.result c.index-hart.result.now (sym c.is_empty.ensures ∙ c.turns-test.true) c.turns.unfinished.ok.0 c.len.ensures c.index-hart.ensures in
    its_number (work_of c.args.job.now) c.args.seed c.turns.harts c.turns.unfinished.items c.turns.draws (c.next.result % c.len.result) c.index-hart.result.now c.turns.invariant at

pub finished-requires : goal.finished-requires
finished-requires c =
    let at = its_place c.turns.unfinished.items (vec_len c.turns.unfinished) c.next.result c.len.result c.index-hart.result.now (sym c.is_empty.ensures ∙ c.turns-test.true) c.turns.unfinished.ok.0 c.len.ensures c.index-hart.ensures in
    let its = drew (work_of c.args.job.now) c.args.seed c.turns.harts c.turn.new.self c.turns.unfinished.items c.turns.draws c.next.new.self c.next.result (c.next.result % c.len.result) c.index-hart.result.now c.in_ok-turn.field-0 c.turns.invariant
    (record { word_is = c.next.ensures.word; count = c.next.ensures.drawn; same_seed = c.next.ensures.seed; same_stream = c.next.ensures.stream })
    (ap (λ (n : ℕ). c.next.result % n) (c.len.ensures ∙ c.turns.unfinished.ok.0)) at c.in_ok-turn.ensures.turn in
    let number = its_number (work_of c.args.job.now) c.args.seed c.turns.harts c.turns.unfinished.items c.turns.draws (c.next.result % c.len.result) c.index-hart.result.now c.turns.invariant at in
    let many = length-map c.turn.new.self.tasks.items task_seen in
    omega (arith, number, many, its.running.count, c.turn.new.self.tasks.ok.0)

pub turns-smaller-then-finished : goal.turns-smaller-then-finished
turns-smaller-then-finished c =
    let at = its_place c.turns.unfinished.items (vec_len c.turns.unfinished) c.next.result c.len.result c.index-hart.result.now (sym c.is_empty.ensures ∙ c.turns-test.true) c.turns.unfinished.ok.0 c.len.ensures c.index-hart.ensures in
    drawn_nearer (work_of c.args.job.now) c.args.seed c.turns.harts c.turn.new.self c.turns.unfinished.items c.turns.draws (c.next.result % c.len.result) c.index-hart.result.now c.in_ok-turn.field-0 c.turn.result c.turns.invariant at c.in_ok-turn.ensures.turn c.in_ok-turn.was c.turn.ensures.nearer

pub turns-preserved-then-finished : goal.turns-preserved-then-finished
turns-preserved-then-finished c =
    let at = its_place c.turns.unfinished.items (vec_len c.turns.unfinished) c.next.result c.len.result c.index-hart.result.now (sym c.is_empty.ensures ∙ c.turns-test.true) c.turns.unfinished.ok.0 c.len.ensures c.index-hart.ensures in
    let its = drew (work_of c.args.job.now) c.args.seed c.turns.harts c.turn.new.self c.turns.unfinished.items c.turns.draws c.next.new.self c.next.result (c.next.result % c.len.result) c.index-hart.result.now c.in_ok-turn.field-0 c.turns.invariant
    (record { word_is = c.next.ensures.word; count = c.next.ensures.drawn; same_seed = c.next.ensures.seed; same_stream = c.next.ensures.stream })
    (ap (λ (n : ℕ). c.next.result % n) (c.len.ensures ∙ c.turns.unfinished.ok.0)) at c.in_ok-turn.ensures.turn in
    let ended = sym (c.finished.ensures (work_of c.args.job.now) c.args.seed _ its.running) ∙ c.if-finished.true in
    subst (λ (l : List ℕ). DrawnSoFar (work_of c.args.job.now) c.args.seed c.turn.new.self l c.next.new.self) (sym c.remove.ensures.items)
    (drawn_last (work_of c.args.job.now) c.args.seed c.turns.harts c.turn.new.self c.turns.unfinished.items c.turns.draws c.next.new.self (c.next.result % c.len.result) c.index-hart.result.now c.turns.invariant its at ended)

pub turns-smaller : goal.turns-smaller
turns-smaller c =
    let at = its_place c.turns.unfinished.items (vec_len c.turns.unfinished) c.next.result c.len.result c.index-hart.result.now (sym c.is_empty.ensures ∙ c.turns-test.true) c.turns.unfinished.ok.0 c.len.ensures c.index-hart.ensures in
    drawn_nearer (work_of c.args.job.now) c.args.seed c.turns.harts c.turn.new.self c.turns.unfinished.items c.turns.draws (c.next.result % c.len.result) c.index-hart.result.now c.in_ok-turn.field-0 c.turn.result c.turns.invariant at c.in_ok-turn.ensures.turn c.in_ok-turn.was c.turn.ensures.nearer

pub turns-preserved : goal.turns-preserved
turns-preserved c =
    let at = its_place c.turns.unfinished.items (vec_len c.turns.unfinished) c.next.result c.len.result c.index-hart.result.now (sym c.is_empty.ensures ∙ c.turns-test.true) c.turns.unfinished.ok.0 c.len.ensures c.index-hart.ensures in
    let its = drew (work_of c.args.job.now) c.args.seed c.turns.harts c.turn.new.self c.turns.unfinished.items c.turns.draws c.next.new.self c.next.result (c.next.result % c.len.result) c.index-hart.result.now c.in_ok-turn.field-0 c.turns.invariant
    (record { word_is = c.next.ensures.word; count = c.next.ensures.drawn; same_seed = c.next.ensures.seed; same_stream = c.next.ensures.stream })
    (ap (λ (n : ℕ). c.next.result % n) (c.len.ensures ∙ c.turns.unfinished.ok.0)) at c.in_ok-turn.ensures.turn in
    let goes_on = sym (c.finished.ensures (work_of c.args.job.now) c.args.seed _ its.running) ∙ c.if-finished.false in
    drawn_on (work_of c.args.job.now) c.args.seed c.turns.harts c.turn.new.self c.turns.unfinished.items c.turns.draws c.next.new.self (c.next.result % c.len.result) c.index-hart.result.now c.turns.invariant its goes_on

-- ---- behind the last

pub into_logs-requires : goal.into_logs-requires
into_logs-requires c =
    let none : c.turns.unfinished.items ≡ [] = nil_from_length c.turns.unfinished.items (sym c.turns.unfinished.ok.0 ∙ eqb-true (vec_len c.turns.unfinished) 0 (sym c.is_empty.ensures ∙ c.turns-test.false)) in
    let run = c.turns.invariant in
    all_at_end (work_of c.args.job.now) c.args.seed c.turns.harts.world.place (tasks_seen c.turns.harts) run.events run.running (all_drawn (work_of c.args.job.now) c.args.seed c.turns.harts c.turns.unfinished.items c.turns.draws run none)

pub returns : goal.returns
returns c =
    let none : c.turns.unfinished.items ≡ [] = nil_from_length c.turns.unfinished.items (sym c.turns.unfinished.ok.0 ∙ eqb-true (vec_len c.turns.unfinished) 0 (sym c.is_empty.ensures ∙ c.turns-test.false)) in
    let run = c.turns.invariant in
    let harts = c.turns.harts in
    let ended = all_drawn (work_of c.args.job.now) c.args.seed harts c.turns.unfinished.items c.turns.draws run none in
    let left = logs_left (work_of c.args.job.now) c.args.seed harts.world.place (tasks_seen harts) run.events c.requires.rules run.running ended in
    record {
      run = IfOk-weaker c.into_logs.result (λ logs. map log_seen logs.items ≡ logs_kept harts)
          (λ logs. (events : List Event) × AreLogsOf (work_of c.args.job.now) c.args.seed (map log_seen logs.items) events × FollowsSeed (hart_count (work_of c.args.job.now)) c.args.seed [] events)
          (λ logs same. (run.events, subst (λ (l : List LogSeen). AreLogsOf (work_of c.args.job.now) c.args.seed l run.events) (sym same) left, run.follows))
          c.into_logs.ensures;
    }
