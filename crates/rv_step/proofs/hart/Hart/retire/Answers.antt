use Rattle.std.proofs.Common.{ℕ, Option, ap, ◌∙◌, slice_index, Some}
use Rattle.rv_fields.specs.Hart.{Registers}
use Rattle.rv_fields.specs.Step.{with_write, rd_written}
use Rattle.rv_fields.specs.Step as steps
use Rattle.rv_step.specs.Views.{hart_seen, done_seen}
use Rattle.rv_step.proofs.hart.Hart.retire.Goals as goal

pub returns-clause-step : goal.returns-clause-step
returns-clause-step c =
    let step : Option (ℕ × ℕ) → Registers → steps.Stepped = λ rd x. record {
      effect = record (steps.retired (hart_seen c.args.self.now) c.args.pa c.args.word c.args.rd (done_seen c.args.self.now c.args.done.now)).effect { rd = rd };
      hart = record (steps.retired (hart_seen c.args.self.now) c.args.pa c.args.word c.args.rd (done_seen c.args.self.now c.args.done.now)).hart { x = x };
    } in
    ap (λ x. step c.rd_written.result x) c.write.ensures.write
    ∙ ap (λ rd. step rd (with_write (λ r. Some (slice_index c.args.self.now.x r)) rd)) c.rd_written.ensures.write
