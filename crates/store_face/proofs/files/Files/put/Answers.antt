use Rattle.std.proofs.Common.{arith, ap, option_map}
use Rattle.std.proofs.lemmas.Map.Text.{text_keys}
use Rattle.store_face.proofs.files.Files.put.Goals as goal

pub returns-clause-others : goal.returns-clause-others
returns-clause-others c = λ other different. ap (option_map (λ bytes. bytes.items)) (grind (arith, text_keys))
