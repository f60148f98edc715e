-- Nodes and their kids are read.
use Rattle.std.proofs.Common.{◌≡◌, ◌-◌, ◌∙◌, suc, List, map, Some, Err, ap, sym, arith, length-append}
use Rattle.std.proofs.lemmas.Result.{err_from_is_err_and}
use Rattle.serde_json.specs.View.{items_view}
use Rattle.rv_fields.specs.Name.{Name}
use Rattle.choice_tree.specs.Forest.{kids_in}
use Rattle.choice_tree.specs.Seen.{label_of}
use Rattle.choice_tree.proofs.Each.{node_more, nodes_all}
use Rattle.choice_tree.proofs.Levels.{no_levels, kids_unread, kids_twice, kids_read}
use Rattle.choice_tree.proofs.reading.+nodes.Goals as goal

pub kids_in-returns-then-levels-eq0 : goal.kids_in-returns-then-levels-eq0
kids_in-returns-then-levels-eq0 t c = no_levels c.args.levels (items_view c.args.values.now) c.if-levels-eq0.true

pub kids_in-returns-in_err-nodes : goal.kids_in-returns-in_err-nodes
kids_in-returns-in_err-nodes t c =
    let p = err_from_is_err_and c.from_residual.result c.from_residual.ensures.1 in
    let more : c.args.levels ≡ suc (c.args.levels - 1) = omega arith in
    kids_unread c.args.levels (c.args.levels - 1) (items_view c.args.values.now) c.in_err-nodes.field-0.0 _ more c.in_err-nodes.ensures.nodes (p.1 ∙ ap Err p.2)

pub kids_in-returns-in_err-set_of : goal.kids_in-returns-in_err-set_of
kids_in-returns-in_err-set_of t c =
    let p = err_from_is_err_and c.from_residual-in_err-set_of.result c.from_residual-in_err-set_of.ensures.1 in
    let more : c.args.levels ≡ suc (c.args.levels - 1) = omega arith in
    let labelled : c.deref-2.result.now ≡ map label_of c.in_ok-nodes.nodes.items = c.deref-2.ensures.value ∙ c.in_ok-labels.ensures ∙ ap (map label_of) c.deref.ensures.value in
    kids_twice {X = List Name} (λ names. names) c.args.levels (c.args.levels - 1) (items_view c.args.values.now) c.in_ok-nodes.nodes.items c.deref-2.result.now c.in_err-set_of.field-0.0 _
    more c.in_ok-nodes.ensures.nodes labelled c.in_err-set_of.ensures (p.1 ∙ ap Err p.2)

pub kids_in-returns : goal.kids_in-returns
kids_in-returns t c =
    let more : c.args.levels ≡ suc (c.args.levels - 1) = omega arith in
    let labelled : c.deref-2.result.now ≡ map label_of c.in_ok-nodes.nodes.items = c.deref-2.ensures.value ∙ c.in_ok-labels.ensures ∙ ap (map label_of) c.deref.ensures.value in
    kids_read c.args.levels (c.args.levels - 1) (items_view c.args.values.now) c.in_ok-nodes.nodes.items c.deref-2.result.now _ more c.in_ok-nodes.ensures.nodes labelled c.in_ok-set_of.ensures
    ∙ ap Some (sym c.new.ensures)

pub nodes_in-loop-value-preserved : goal.nodes_in-loop-value-preserved
nodes_in-loop-value-preserved t c = record {
  read = node_more (kids_in c.args.levels) c.args.values.now c.loop-value.value-index _ _ c.value-item.result c.in_ok-node.node _ c.loop-value-test.true (sym c.value-item.is)
      c.in_ok-node.ensures c.in_ok-push.ensures.items c.loop-value.invariant.read;
  count = simp (c.in_ok-push.ensures.items, length-append) (omega (arith, c.loop-value.invariant.count));
}

pub nodes_in-returns-clause-nodes : goal.nodes_in-returns-clause-nodes
nodes_in-returns-clause-nodes t c =
    nodes_all (kids_in c.args.levels) c.args.values.now c.loop-value.value-index c.loop-value.nodes.items c.loop-value-test.false c.loop-value.invariant.read
