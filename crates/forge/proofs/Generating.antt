-- What the files of a run are.
use Rattle.std.proofs.Common.{ℕ, ◌≡◌, List, Some, Result, Ok, Err, IfOk, ◌∙◌}
use Rattle.elf_file.specs.Loading.{load}
use Rattle.elf_file.specs.Writing.{elf_of}
use Rattle.choice_tree.specs.Forest.{Forest}
use Rattle.region_plan.specs.Plan.{Work, hart_count}
use Rattle.trace_text.specs.Lines.{Line, effects_of}
use Rattle.trace_text.specs.Orders.{IsOrder}
use Rattle.trace_text.specs.Text.{trace_text, order_text}
use Rattle.world_face.specs.Events.{Event}
use Rattle.hart_task.specs.Log.{LogSeen}
use Rattle.hart_task.specs.Logs.{AreLogsOf}
use Rattle.run_merge.specs.Answers.{Answers}
use Rattle.run_merge.specs.FromReset.{FromReset}
use Rattle.run_merge.specs.Image.{AreImagesOf, HartImage, image, program}
use Rattle.run_merge.specs.Justified.{Justified}
use Rattle.run_merge.specs.Order.{whole_order}
use Rattle.forge.specs.declared.made.Made.{Made}
use Rattle.forge.specs.Generated.{AreFilesOf, Follows, IsCountOf, IsRunOf, Schedule}

pub files_of : (work : Work) (trees : Forest) (seed : ℕ) (events : List Event) (elf order trace : List ℕ) (lines : List Line) (harts : List HartImage)
    → trace ≡ trace_text (hart_count work) lines → order ≡ order_text (hart_count work) (whole_order (hart_count work) (effects_of lines))
    → IsOrder (hart_count work) (whole_order (hart_count work) (effects_of lines))
    → AreImagesOf work lines harts → elf ≡ elf_of (program work harts) → ((a : ℕ) → load elf a ≡ Some (image work lines a))
    → FromReset work lines → Justified work lines → Answers work trees seed events lines → AreFilesOf work trees seed events elf order trace lines
files_of work trees seed events elf order trace lines harts is_trace is_order in_ranges images file loaded boots justified answers = record {
  passes = record {
    files = record {
      loads = λ a. (image work lines a, loaded a);
      order_is = is_order;
      order_ranges = in_ranges;
      trace_is = is_trace;
      trace_ranges = answers.ranges;
    };
    plays = λ machine reset. boots machine (record { bytes = λ a. reset.bytes a ∙ loaded a; links = reset.links; resets = reset.resets });
  };
  program_is = record { harts = harts; images = images; file = file };
  image_is = loaded;
  justified = justified;
  answers = answers;
}

-- The files that are made from logs are those of a run under the schedule, where the logs are those of such a run.
pub run_under : {E : Type 0} (work : Work) (trees : Forest) (seed : ℕ) (schedule : Schedule) (logs : List LogSeen) (result : Result Made E)
    → (events : List Event) × AreLogsOf work seed logs events × Follows schedule (hart_count work) seed events
    → IfOk result (λ (made : Made). (lines : List Line)
    × ((trees : Forest) (seed : ℕ) (events : List Event) → AreLogsOf work seed logs events → AreFilesOf work trees seed events made.elf.items made.order.items made.trace.items lines)
    × IsCountOf made.counts (hart_count work) lines)
    → IfOk result (λ (made : Made). (lines : List Line)
    × IsRunOf work trees seed schedule made.elf.items made.order.items made.trace.items lines
    × IsCountOf made.counts (hart_count work) lines)
run_under work trees seed schedule logs (Ok made) run files =
    (files.0, record { events = run.0; files = files.1 trees seed run.0 run.1; turns = run.2 }, files.2)
run_under work trees seed schedule logs (Err e) run files = tt
