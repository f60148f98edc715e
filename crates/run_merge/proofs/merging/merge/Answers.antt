-- What merging makes of the logs is their run.
use Rattle.std.proofs.Common.{ℕ, ◌<◌, ◌≤◌, ◌≡◌, ◌^◌, Some, length, ap, sym, ◌∙◌, arith, subst}
use Rattle.std.specs.List.{AllByRecursion}
use Rattle.region_plan.specs.Views.{IsPlannedBy, work_of}
use Rattle.hart_task.specs.Log.{LogSeen}
use Rattle.run_merge.specs.Slots.{FitIn, logs_seen, slots_lines, slots_seen}
use Rattle.region_plan.specs.Plan.{Work, hart_count}
use Rattle.trace_text.specs.Lines.{effects_of, starting}
use Rattle.trace_text.specs.Orders.{IsOrder}
use Rattle.trace_text.specs.Views.{lines_seen}
use Rattle.hart_task.specs.OneRun.{all_lines}
use Rattle.run_merge.specs.Answers.{Answers}
use Rattle.run_merge.specs.FromReset.{FromReset}
use Rattle.run_merge.specs.Image.{AreImagesOf}
use Rattle.run_merge.specs.Justified.{Justified}
use Rattle.run_merge.specs.Order.{whole_order}
use Rattle.run_merge.specs.Run.{images_of}
use Rattle.run_merge.proofs.Answered.{justified_run}
use Rattle.run_merge.proofs.FromReset.{from_reset}
use Rattle.run_merge.proofs.LogImages.{images_are}
use Rattle.run_merge.proofs.Merged.{answers, starting_small}
use Rattle.run_merge.proofs.Ordered.{order_of_run, steps_of_run}
use Rattle.run_merge.proofs.Gathered.{Slots, as_many, events_fit, have_room, images_of_logs, lines_are, written_back}
use Rattle.run_merge.proofs.merging.merge.Goals as goal

pub programs_of-requires : goal.programs_of-requires
programs_of-requires c =
    let logs = c.requires.logs in
    subst (λ (slots : Slots). AllByRecursion (λ (log : LogSeen). FitIn (length slots) log.events) (logs_seen c.args.logs.items)) (sym c.as_mut_slice.ensures.value)
    (events_fit (work_of c.args.job.now) logs.0 c.args.logs.items c.as_slice.result.now logs.1 c.in_ok-slots.slots.items logs.2 c.as_slice.ensures.value c.in_ok-slots.ensures)

pub invariant_of-result : goal.invariant_of-result
invariant_of-result c =
    let logs = c.requires.logs in
    let many = as_many (work_of c.args.job.now) logs.0 logs.1 c.in_ok-harts.harts.items c.args.logs.items logs.2 c.in_ok-harts.ensures.images in
    record {
      planned = ap length c.in_ok-try_clone.ensures ∙ sym c.plan.ensures.planned.count ∙ sym many;
      some = omega (arith, many, c.requires.rules.some);
      most = omega (arith, many, c.requires.rules.most);
      room = have_room (work_of c.args.job.now) logs.0 logs.1 c.in_ok-harts.harts.items c.args.logs.items logs.2 c.in_ok-harts.ensures.images;
    }

pub returns-clause-lines : goal.returns-clause-lines
returns-clause-lines c = λ seed events are.
    let old : Slots = c.in_ok-slots.slots.items in
    let new : Slots = c.programs_of.new.slots in
    let lent : c.as_mut_slice.result.now ≡ old = c.as_mut_slice.ensures.value in
    c.in_ok-lines.ensures
    ∙ ap (λ (slots : Slots). slots_lines (slots_seen slots)) (written_back new old c.in_ok-slots.slots.len c.in_ok-slots.slots.ok.0 (c.programs_of.auto.slots ∙ ap length lent))
    ∙ lines_are (work_of c.args.job.now) seed c.args.logs.items c.as_slice.result.now events c.as_mut_slice.result.now new are c.as_slice.ensures.value
    (ap slots_seen lent ∙ c.in_ok-slots.ensures) c.in_ok-harts.ensures.slots

pub returns-clause-images : goal.returns-clause-images
returns-clause-images c = images_of_logs c.in_ok-harts.harts.items c.args.logs.items c.in_ok-harts.ensures.images

-- ---- what the logs' run promises, carried over to the lines

pub returns-clause-program : goal.returns-clause-program
returns-clause-program c =
    let logs = c.requires.logs in
    let work : Work = work_of c.args.job.now in
    subst (λ ls. AreImagesOf work ls (images_of c.in_ok-harts.harts.items)) (sym (returns-clause-lines c logs.0 logs.1 logs.2))
    (subst (AreImagesOf work (all_lines logs.1)) (sym c.in_ok-harts.ensures.images)
    (images_are work logs.0 (logs_seen c.args.logs.items) logs.1 c.requires.rules logs.2))

pub returns-clause-answers : goal.returns-clause-answers
returns-clause-answers c = λ forest seed events are.
    subst (Answers (work_of c.args.job.now) forest seed events) (sym (returns-clause-lines c seed events are))
    (answers (work_of c.args.job.now) seed (logs_seen c.args.logs.items) events c.requires.rules are forest)

pub returns-clause-justified : goal.returns-clause-justified
returns-clause-justified c =
    let logs = c.requires.logs in
    subst (Justified (work_of c.args.job.now)) (sym (returns-clause-lines c logs.0 logs.1 logs.2))
    (justified_run (work_of c.args.job.now) logs.0 (logs_seen c.args.logs.items) logs.1 c.requires.rules logs.2)

pub returns-clause-boots : goal.returns-clause-boots
returns-clause-boots c =
    let logs = c.requires.logs in
    let work : Work = work_of c.args.job.now in
    let seen = logs_seen c.args.logs.items in
    subst (FromReset work) (sym (returns-clause-lines c logs.0 logs.1 logs.2))
    (from_reset work (all_lines logs.1) c.requires.rules (starting_small work logs.0 seen logs.1 c.requires.rules logs.2) (steps_of_run work logs.0 seen logs.1 c.requires.rules logs.2)
    (justified_run work logs.0 seen logs.1 c.requires.rules logs.2))

pub returns-clause-plan : goal.returns-clause-plan
returns-clause-plan c = subst (λ harts. IsPlannedBy harts (work_of c.args.job.now)) (sym c.in_ok-try_clone.ensures) c.plan.ensures.planned

pub returns-clause-ranges : goal.returns-clause-ranges
returns-clause-ranges c =
    let logs = c.requires.logs in
    let work : Work = work_of c.args.job.now in
    subst (IsOrder (hart_count work)) (sym (c.in_ok-order.ensures ∙ ap (λ n. whole_order n (effects_of (lines_seen c.as_slice-2.result.now))) c.hart_count.ensures
    ∙ ap (λ ls. whole_order (hart_count work) (effects_of (lines_seen ls))) c.as_slice-2.ensures.value
    ∙ ap (λ ls. whole_order (hart_count work) (effects_of ls)) (returns-clause-lines c logs.0 logs.1 logs.2)))
    (order_of_run work logs.0 (logs_seen c.args.logs.items) logs.1 c.requires.rules logs.2)

pub returns-clause-values : goal.returns-clause-values
returns-clause-values c =
    let logs = c.requires.logs in
    subst (λ ls. (h r v : ℕ) → starting ls h r ≡ Some v → (1 ≤ r) × (r < 32) × (v < 2 ^ 64)) (sym (returns-clause-lines c logs.0 logs.1 logs.2))
    (starting_small (work_of c.args.job.now) logs.0 (logs_seen c.args.logs.items) logs.1 c.requires.rules logs.2)
