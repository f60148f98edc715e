use Rattle.value_file.proofs.Untouched.{initial_at_first, present_at_first}
use Rattle.value_file.proofs.file.ValueFile.new.Goals as goal

pub returns-clause-initial : goal.returns-clause-initial
returns-clause-initial c = initial_at_first 31

pub returns-clause-present : goal.returns-clause-present
returns-clause-present c = present_at_first 31
