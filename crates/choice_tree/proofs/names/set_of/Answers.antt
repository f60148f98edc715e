-- One name more is in the set, or was there before.
use Rattle.std.proofs.Common.{◌≡◌, true, false, ap, sym, ◌∙◌, Some, None, if◌then◌else◌}
use Rattle.std.specs.List.{list_any}
use Rattle.choice_tree.proofs.Different.{set_more, set_twice, turned}
use Rattle.choice_tree.proofs.Keys.{name_eq}
use Rattle.choice_tree.proofs.names.set_of.Goals as goal

pub returns-then-not-branch : goal.returns-then-not-branch
returns-then-not-branch c =
    let there : list_any (name_eq c.name-item.result) c.loop-name.set.keys ≡ true = turned _ true (sym c.in_ok-insert.ensures.added ∙ c.if-not-branch.true) in
    ap (λ b. if b then Some c.args.names.now else None)
    (set_twice c.args.names.now c.loop-name.name-index c.name-item.result c.loop-name.set.keys c.loop-name-test.true c.name-item.is c.loop-name.invariant.keys there)

pub loop-name-preserved : goal.loop-name-preserved
loop-name-preserved c =
    let absent : list_any (name_eq c.name-item.result) c.loop-name.set.keys ≡ false = turned _ false (sym c.in_ok-insert.ensures.added ∙ c.if-not-branch.false) in
    let more = set_more c.args.names.now c.loop-name.name-index c.name-item.result c.loop-name.set.keys c.insert.new.self.keys c.loop-name-test.true c.name-item.is
    c.loop-name.invariant.keys c.loop-name.invariant.different absent c.in_ok-insert.ensures.keys in
    record { keys = more.0; different = more.1 }
