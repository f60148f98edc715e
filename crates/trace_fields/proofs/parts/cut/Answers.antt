use Rattle.std.proofs.Common.{◌∙◌, sym}
use Rattle.std.specs.Prelude.{◌==◌}
use Rattle.trace_fields.proofs.Cuts.{cut_none, cut_slice}
use Rattle.trace_fields.proofs.parts.cut.Goals as goal

pub returns-in_err-at-clause-parts : goal.returns-in_err-at-clause-parts
returns-in_err-at-clause-parts c =
    rw c.from_residual.ensures (cut_none (λ b. b == c.args.byte) c.args.bytes.now (sym c.place_of.ensures ∙ c.in_err-at.was))

pub returns-clause-parts : goal.returns-clause-parts
returns-clause-parts c = cut_slice (λ b. b == c.args.byte) c.args.bytes.now c.in_ok-at.at (sym c.place_of.ensures ∙ c.in_ok-at.was)
