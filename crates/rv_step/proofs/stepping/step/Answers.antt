-- The laws of steps.
use Rattle.rv_fields.proofs.AllTold.{all_told}
use Rattle.rv_fields.proofs.Enough.{enough_told}
use Rattle.rv_fields.proofs.MoreTold.{more_told}
use Rattle.rv_fields.proofs.Opened.{more_told_open, step_leaves}
use Rattle.rv_fields.proofs.Ranges.{ranges_stay, bytes_stay}
use Rattle.rv_fields.proofs.Truth.{tells_what_is}
use Rattle.rv_step.proofs.stepping.step.Goals as goal

pub returns-clause-total : goal.returns-clause-total
returns-clause-total g c = all_told

pub returns-clause-more : goal.returns-clause-more
returns-clause-more g c = more_told

pub returns-clause-any_cause : goal.returns-clause-any_cause
returns-clause-any_cause g c = more_told_open

pub returns-clause-needs : goal.returns-clause-needs
returns-clause-needs g c = enough_told

pub returns-clause-tells : goal.returns-clause-tells
returns-clause-tells g c = tells_what_is

pub returns-clause-leaves : goal.returns-clause-leaves
returns-clause-leaves g c = step_leaves

pub returns-clause-ranges : goal.returns-clause-ranges
returns-clause-ranges g c = ranges_stay

pub returns-clause-bytes : goal.returns-clause-bytes
returns-clause-bytes g c = bytes_stay
