use Rattle.std.proofs.Common.{append_assoc}
use Rattle.forge.proofs.stop.StopDisplay.fmt.Goals as goal

pub returns-in-TooLong-clause-writes : goal.returns-in-TooLong-clause-writes
returns-in-TooLong-clause-writes g c = λ plain ok. rw c.in-TooLong.is (simp append_assoc (c.write-in-TooLong.ensures.writes plain ok))
