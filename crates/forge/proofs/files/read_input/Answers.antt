use Rattle.std.proofs.Common.{ap, ◌∙◌, Ok}
use Rattle.forge.proofs.Reading.{longer}
use Rattle.forge.proofs.files.read_input.Goals as goal

pub returns-in-Ok-false-clause-content : goal.returns-in-Ok-false-clause-content
returns-in-Ok-false-clause-content g c =
    longer (g.S.Store.state c.args.store.now).holds c.args.name.now c.args.most (c.read_whole.ensures.longer (c.in-Ok-false.is ∙ ap Ok c.in-Ok-false.field-0-test))
