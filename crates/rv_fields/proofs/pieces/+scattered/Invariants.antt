use Rattle.std.proofs.Common.{length}
use Rattle.rv_fields.proofs.pieces.+scattered.Given as goal

abbrev pub decreases-scattered : goal.decreases-scattered
decreases-scattered l = length l.pieces.now
