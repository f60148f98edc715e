use Rattle.std.proofs.Common.{◌≡◌, drop, Some}
use Rattle.serde_json.specs.View.{items_view}
use Rattle.rv_fields.specs.Attempt.{◌>>=◌}
use Rattle.job_read.specs.Accepted.{numbers_of, registers_of}
use Rattle.job_read.proofs.Each.{registers_with}
use Rattle.job_read.proofs.requests.registers_of.Given as goal

-- the registers so far, with those of the other values
abbrev pub invariant-loop-value : goal.invariant-loop-value
invariant-loop-value l = (numbers_of (items_view (drop l.value-index l.values)) >>= λ others. Some (registers_with l.registers.has others)) ≡ registers_of (items_view l.values)
