use Rattle.std.proofs.Common.{length}
use Rattle.rv_fields.proofs.pieces.+gathered.Given as goal

abbrev pub decreases-gathered : goal.decreases-gathered
decreases-gathered l = length l.pieces.now
