use Rattle.std.proofs.Common.{◌≡◌, ◌∙◌, ap, sym}
use Rattle.choice_tree.specs.Trees.{tree_number}
use Rattle.choice_tree.proofs.Keys.{position_by_bytes}
use Rattle.choice_tree.proofs.trees.Trees.number_of.Goals as goal

pub returns-in_err-number-clause-number : goal.returns-in_err-number-clause-number
returns-in_err-number-clause-number c =
    let found : c.get_index_of.result ≡ tree_number c.args.self.now c.args.name =
    c.get_index_of.ensures.index ∙ position_by_bytes c.args.name c.self.inside.trees.entries ∙ ap (λ f. tree_number f c.args.name) c.self.view_is in
    c.from_residual.ensures ∙ sym c.in_err-number.was ∙ found

pub returns-clause-number : goal.returns-clause-number
returns-clause-number c =
    let found : c.get_index_of.result ≡ tree_number c.args.self.now c.args.name =
    c.get_index_of.ensures.index ∙ position_by_bytes c.args.name c.self.inside.trees.entries ∙ ap (λ f. tree_number f c.args.name) c.self.view_is in
    sym c.in_ok-number.was ∙ found
