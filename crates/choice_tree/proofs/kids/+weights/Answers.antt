use Rattle.std.proofs.Common.{◌≡◌, ◌<◌, ◌==◌, ◌∷◌, true, false, length, vec_len, arith, ap, sym, ◌∙◌, length-set}
use Rattle.std.specs.Str.{bytes_eq}
use Rattle.choice_tree.specs.declared.kids.Node.TheVariants.{Inner}
use Rattle.choice_tree.specs.Forest.{ahead}
use Rattle.choice_tree.specs.Seen.{nodes_seen}
use Rattle.choice_tree.specs.Trees.{reweighed}
use Rattle.choice_tree.proofs.Keys.{by_bytes}
use Rattle.choice_tree.proofs.Weights.{nowhere_at, reweighed_here, reweighed_below, weight_more, weights_all}
use Rattle.choice_tree.proofs.kids.+weights.Goals as goal

pub Kids::set_weight-returns-in_default : goal.Kids::set_weight-returns-in_default
Kids::set_weight-returns-in_default t c = nowhere_at c.args.path.now c.args.weight c.args.self.now c.in_default.ensures.cases

pub Kids::set_weight-loop-i-preserved : goal.Kids::set_weight-loop-i-preserved
Kids::set_weight-loop-i-preserved t c =
    let long : vec_len c.self.inside.nodes ≡ length c.self.inside.nodes.items = c.self.inside.nodes.ok.0 in
    let small : c.loop-i.i < length c.loop-i.self-inside.nodes.items = omega (arith, c.loop-i.invariant.count) in
    record {
      weights = weight_more _ _ c.loop-i.self-inside.nodes.items c.loop-i.i c.index_mut.result.now c.set_weight.new.self _ small c.index_mut.ensures.value c.set_weight.ensures c.loop-i.invariant.weights;
      count = length-set c.loop-i.self-inside.nodes.items c.loop-i.i c.set_weight.new.self ∙ c.loop-i.invariant.count;
    }

pub Kids::set_weight-returns : goal.Kids::set_weight-returns
Kids::set_weight-returns t c =
    let long : vec_len c.self.inside.nodes ≡ length c.self.inside.nodes.items = c.self.inside.nodes.ok.0 in
    weights_all _ _ c.loop-i.self-inside.nodes.items c.loop-i.i _ (omega (arith, c.loop-i.invariant.count)) c.loop-i.invariant.weights
    ∙ ap (λ p. reweighed p c.args.weight (nodes_seen c.self.inside.nodes.items)) (sym c.in-Some.ensures.cases.0)
    ∙ ap (reweighed c.args.path.now c.args.weight) c.self.view_is

pub Node::set_weight-returns-then-is_empty-2 : goal.Node::set_weight-returns-then-is_empty-2
Node::set_weight-returns-then-is_empty-2 t c = λ others.
    let same : bytes_eq c.args.first c.in-Inner.label ≡ true = sym (by_bytes c.args.first c.in-Inner.label) ∙ sym c.if-eq-2.ensures in
    let none : (length c.args.rest.now == 0) ≡ true = sym c.if-is_empty-2.ensures in
    ap (λ n. reweighed (c.args.first ∷ c.args.rest.now) c.args.weight (ahead n others)) c.in-Inner.is
    ∙ reweighed_here c.args.first c.in-Inner.label c.args.rest.now c.args.weight c.in-Inner.held c.in-Inner.kids others same none

pub Node::set_weight-returns-else-is_empty-2 : goal.Node::set_weight-returns-else-is_empty-2
Node::set_weight-returns-else-is_empty-2 t c = λ others.
    let same : bytes_eq c.args.first c.in-Inner.label ≡ true = sym (by_bytes c.args.first c.in-Inner.label) ∙ sym c.if-eq-2.ensures in
    let some : (length c.args.rest.now == 0) ≡ false = sym c.if-is_empty-2.ensures in
    ap (λ n. reweighed (c.args.first ∷ c.args.rest.now) c.args.weight (ahead n others)) c.in-Inner.is
    ∙ reweighed_below c.args.first c.in-Inner.label c.args.rest.now c.args.weight c.in-Inner.held c.in-Inner.kids others same some
    ∙ ap (λ kids. ahead (Inner c.in-Inner.label c.in-Inner.held kids) (reweighed (c.args.first ∷ c.args.rest.now) c.args.weight others)) (sym c.set_weight.ensures)
