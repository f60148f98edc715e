-- The files are those of the run, and the numbers those of its lines.
use Rattle.std.proofs.Common.{◌≡◌, ◌++◌, ap, subst, ◌∙◌, Some}
use Rattle.elf_file.specs.Loading.{load}
use Rattle.elf_file.specs.Writing.{elf_of}
use Rattle.ram_image.specs.Segments.{stretches, memory_of}
use Rattle.region_plan.specs.Plan.{hart_count}
use Rattle.region_plan.specs.Views.{work_of}
use Rattle.trace_text.specs.Orders.{IsOrder}
use Rattle.trace_text.specs.Text.{trace_text, order_text}
use Rattle.trace_text.specs.Views.{lines_seen}
use Rattle.run_merge.specs.Run.{images_of, run_lines}
use Rattle.forge.specs.Generated.{IsCountOf}
use Rattle.forge.proofs.Generating.{files_of}
use Rattle.forge.proofs.making.make_files.Goals as goal

pub returns : goal.returns
returns c =
    let work = work_of c.args.job.now in
    let run = c.in_ok-run.run' in
    let merged = c.in_ok-run.ensures in
    let count : c.hart_count-harts.result ≡ hart_count work = c.hart_count-harts.ensures ∙ merged.count in
    let written : c.write_elf.new.into.items ≡ elf_of (stretches c.as_slice.result.now) =
    c.in_ok-write_elf.ensures.file ∙ ap (λ bs. bs ++ elf_of (stretches c.as_slice.result.now)) c.new-elf.ensures.items in
    record {
      files = (
        run_lines run,
        (λ trees seed events are. files_of work trees seed events _ _ _ (run_lines run) (images_of run.harts.items)
            (c.in_ok-write_trace.ensures.text
            ∙ ap (λ bs. bs ++ trace_text c.hart_count-harts.result (lines_seen c.lines.result.now)) c.new-trace.ensures.items
            ∙ ap (λ n. trace_text n (lines_seen c.lines.result.now)) count
            ∙ ap (λ ls. trace_text (hart_count work) (lines_seen ls)) c.lines.ensures)
            (c.in_ok-write_order.ensures.text
            ∙ ap (λ bs. bs ++ order_text c.hart_count-harts.result c.order.result.now) c.new-order.ensures.items
            ∙ ap (λ n. order_text n c.order.result.now) count
            ∙ ap (order_text (hart_count work)) (c.order.ensures ∙ merged.order))
            (subst (IsOrder (hart_count work)) merged.order merged.ranges)
            merged.program
            (written ∙ ap (λ ss. elf_of (stretches ss)) c.as_slice.ensures.value ∙ ap elf_of (c.in_ok-segments.ensures.program work merged.plan))
            (λ a. ap (λ f. load f a) written
            ∙ c.in_ok-write_elf.ensures.loaded a
            ∙ ap (λ ss. Some (memory_of (stretches ss) a)) c.as_slice.ensures.value
            ∙ ap Some (c.in_ok-segments.ensures.image work merged.plan merged.program a))
            merged.boots merged.justified (merged.answers trees seed events are)),
        subst (λ n. IsCountOf c.counts_of-counts.result n (run_lines run)) count
            (subst (λ ls. IsCountOf c.counts_of-counts.result c.hart_count-harts.result (lines_seen ls)) c.lines-2.ensures c.counts_of-counts.ensures),
      );
    }
