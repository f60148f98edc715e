use Rattle.std.proofs.Common.{◌≡◌, drop, Some}
use Rattle.serde_json.specs.View.{items_view}
use Rattle.rv_fields.specs.Attempt.{◌>>=◌}
use Rattle.job_read.specs.Accepted.{items_of}
use Rattle.job_read.proofs.Each.{ahead}
use Rattle.job_read.proofs.requests.items_of.Given as goal

-- the items so far, ahead of those of the other values
abbrev pub invariant-loop-value : goal.invariant-loop-value
invariant-loop-value l = (items_of (items_view (drop l.value-index l.values)) >>= λ others. Some (ahead l.items.items others)) ≡ items_of (items_view l.values)
