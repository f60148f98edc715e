-- One tree more is read, or one whose name was there before.
use Rattle.std.proofs.Common.{◌≡◌, ◌∙◌, ◌++◌, ◌∷◌, [], true, false, is_some, ap, sym, arith, length-append}
use Rattle.std.specs.Map.{lookup}
use Rattle.indexmap.proofs.CallerLemmas.{insert_entry-new}
use Rattle.choice_tree.specs.Seen.{forest_seen, tree_seen}
use Rattle.choice_tree.proofs.Each.{tree_more}
use Rattle.choice_tree.proofs.Forests.{tree_twice, tree_new, name_found, forest_more, none_found}
use Rattle.choice_tree.proofs.Keys.{name_eq}
use Rattle.choice_tree.proofs.reading.trees_in.Goals as goal

pub returns-then-is_some : goal.returns-then-is_some
returns-then-is_some c =
    let found : is_some (lookup (name_eq c.in_ok-name.name) c.loop-value.trees.entries) ≡ true =
    ap is_some (sym c.in_ok-insert.ensures.old) ∙ sym c.is_some.ensures ∙ c.if-is_some.true in
    tree_twice c.args.values.now c.loop-value.value-index (forest_seen c.loop-value.trees.entries) c.value-item.result (tree_seen (c.in_ok-name.name, c.in_ok-name.tree))
    c.loop-value-test.true (sym c.value-item.is) c.in_ok-name.ensures (name_found c.in_ok-name.name c.loop-value.trees.entries true found) c.loop-value.invariant.read

pub loop-value-preserved : goal.loop-value-preserved
loop-value-preserved c =
    let absent : is_some (lookup (name_eq c.in_ok-name.name) c.loop-value.trees.entries) ≡ false =
    ap is_some (sym c.in_ok-insert.ensures.old) ∙ sym c.is_some.ensures ∙ c.if-is_some.false in
    let tree = tree_seen (c.in_ok-name.name, c.in_ok-name.tree) in
    let new = c.in_ok-insert.ensures.entries ∙ insert_entry-new name_eq c.loop-value.trees c.in_ok-name.name c.in_ok-name.tree (none_found _ absent) in
    let more : forest_seen c.insert.new.self.entries ≡ forest_seen c.loop-value.trees.entries ++ tree ∷ [] =
    ap forest_seen new ∙ forest_more c.loop-value.trees.entries (c.in_ok-name.name, c.in_ok-name.tree) in
    record {
      read = tree_more c.args.values.now c.loop-value.value-index (forest_seen c.loop-value.trees.entries) (forest_seen c.insert.new.self.entries) c.value-item.result tree _
          c.loop-value-test.true (sym c.value-item.is) c.in_ok-name.ensures more c.loop-value.invariant.read;
      different = rw more (tree_new (forest_seen c.loop-value.trees.entries) tree c.loop-value.invariant.different (name_found c.in_ok-name.name c.loop-value.trees.entries false absent));
      count = rw new (omega (arith, length-append c.loop-value.trees.entries ((c.in_ok-name.name, c.in_ok-name.tree) ∷ []), c.loop-value.invariant.count));
    }
