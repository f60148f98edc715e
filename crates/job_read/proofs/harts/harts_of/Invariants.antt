use Rattle.std.proofs.Common.{◌≡◌, ◌++◌, drop, length, Some}
use Rattle.serde_json.specs.View.{items_view}
use Rattle.rv_fields.specs.Attempt.{◌>>=◌}
use Rattle.job_read.specs.Accepted.{harts_of}
use Rattle.job_read.proofs.Each.{with_templates}
use Rattle.job_read.proofs.harts.harts_of.Given as goal

-- a template for each hart, and the harts so far before those of the other values
abbrev pub invariant-loop-value : goal.invariant-loop-value
invariant-loop-value l = record {
  same : length l.templates.items ≡ length l.harts.items;
  read : (harts_of (items_view (drop l.value-index l.values)) >>= λ others. Some (with_templates l.harts.items l.templates.items ++ others)) ≡ harts_of (items_view l.values);
}
