-- What reset leaves of the start's values is them.
use Rattle.std.proofs.Common.{ap, ◌∙◌, arith}
use Rattle.rv_fields.specs.CsrFile.{reset}
use Rattle.boot_words.proofs.Started.{raw_with, start_of_reset}
use Rattle.boot_words.proofs.start.start_csrs.Goals as goal

pub returns : goal.returns
returns c =
    c.reset_of.ensures.value ∙ ap (λ pc. reset c.args.hart (raw_with pc)) c.code_start.ensures ∙ start_of_reset c.args.hart (omega arith)
