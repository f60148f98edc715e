-- Every hart boots.
use Rattle.boot_words.proofs.Booted.{boots}
use Rattle.boot_words.proofs.start.boot_values.Goals as goal

pub returns-clause-boots : goal.returns-clause-boots
returns-clause-boots c = boots
