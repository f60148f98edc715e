-- The run follows the list to its end, and leaves its logs.
use Rattle.std.proofs.Common.{◌≡◌, List, [], arith, get_or, map, refl, subst, sym}
use Rattle.std.proofs.lemmas.Result.{IfOk-weaker}
use Rattle.region_plan.specs.Plan.{hart_count}
use Rattle.region_plan.specs.Views.{work_of}
use Rattle.world_face.specs.Events.{Event}
use Rattle.hart_task.specs.Log.{LogSeen, log_seen}
use Rattle.hart_task.specs.Schedule.{FollowsList}
use Rattle.hart_task.specs.Logs.{AreLogsOf}
use Rattle.serial_world.specs.Running.{logs_kept, tasks_seen}
use Rattle.serial_world.proofs.Leaving.{all_at_end, logs_left}
use Rattle.serial_world.proofs.Listed.{all_listed, one_listed}
use Rattle.serial_world.proofs.serial.run_list.Goals as goal

pub loop-hart-preserved : goal.loop-hart-preserved
loop-hart-preserved c =
    let h = get_or c.args.schedule.now c.loop-hart.hart-index 0 in
    one_listed (work_of c.args.job.now) c.args.seed c.loop-hart.harts c.follow.new.self c.args.schedule.now c.loop-hart.hart-index h c.loop-hart.invariant (omega arith) refl c.in_ok-follow.ensures

pub into_logs-requires : goal.into_logs-requires
into_logs-requires c =
    let harts = c.finish_all.new.self in
    let run = all_listed (work_of c.args.job.now) c.args.seed c.loop-hart.harts harts c.args.schedule.now c.loop-hart.hart-index c.loop-hart.invariant (omega arith) c.in_ok-finish_all.ensures in
    all_at_end (work_of c.args.job.now) c.args.seed harts.world.place (tasks_seen harts) run.events run.running run.ended

pub returns : goal.returns
returns c =
    let harts = c.finish_all.new.self in
    let run = all_listed (work_of c.args.job.now) c.args.seed c.loop-hart.harts harts c.args.schedule.now c.loop-hart.hart-index c.loop-hart.invariant (omega arith) c.in_ok-finish_all.ensures in
    let left = logs_left (work_of c.args.job.now) c.args.seed harts.world.place (tasks_seen harts) run.events c.requires.rules run.running run.ended in
    record {
      run = IfOk-weaker c.into_logs.result (λ logs. map log_seen logs.items ≡ logs_kept harts)
          (λ logs. (events : List Event) × AreLogsOf (work_of c.args.job.now) c.args.seed (map log_seen logs.items) events × FollowsList (hart_count (work_of c.args.job.now)) [] c.args.schedule.now events)
          (λ logs same. (run.events, subst (λ (l : List LogSeen). AreLogsOf (work_of c.args.job.now) c.args.seed l run.events) (sym same) left, run.follows))
          c.into_logs.ensures;
    }
