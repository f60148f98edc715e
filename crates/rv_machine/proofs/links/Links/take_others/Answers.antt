use Rattle.std.proofs.Common.{ap, ◌∙◌, rules}
use Rattle.std.proofs.lemmas.Fn.{filter_same}
use Rattle.rv_machine.specs.Links.{stands}
use Rattle.rv_machine.proofs.Standing.{stays, left_standing}
use Rattle.rv_machine.proofs.links.Links.take_others.Goals as goal

pub returns-clause-others : goal.returns-clause-others
returns-clause-others c h g =
    ap (λ links. stands links h g) (filter_same _ (stays c.args.hart c.args.granule) _ (λ x b f' k. search rules) _ _ c.retain.ensures.filtered)
    ∙ left_standing c.args.self.now.standing.items c.args.hart c.args.granule h g
