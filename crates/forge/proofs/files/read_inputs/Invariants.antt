use Rattle.std.proofs.Common.{map, take}
use Rattle.std.specs.Prelude.{option_map}
use Rattle.forge.proofs.Reading.{AreBegun}
use Rattle.forge.proofs.files.read_inputs.Given as goal

abbrev pub invariant-loop-name : goal.invariant-loop-name
invariant-loop-name g l = AreBegun l.most (map (λ name. name.now) (take l.name-index l.names)) (g.S.Store.state l.fn.store) (g.S.Store.state l.store)
    (map (λ content. content.items) l.contents.items) (option_map (λ name. name.now) l.too_long)
