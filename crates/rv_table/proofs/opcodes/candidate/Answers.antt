use Rattle.std.proofs.Common.{ap, ◌∙◌}
use Rattle.rv_table.specs.Key.{ins_with}
use Rattle.rv_table.proofs.Candidate.{key_tells}
use Rattle.rv_table.proofs.opcodes.candidate.Goals as goal

pub returns : goal.returns
returns c i agrees = c.ins.ensures ∙ ap ins_with c.of.ensures ∙ key_tells c.args.word i agrees
