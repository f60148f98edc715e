use Rattle.std.proofs.Common.{◌≡◌, take, true}
use Rattle.rv_fields.specs.Name.{are_different}
use Rattle.choice_tree.proofs.names.set_of.Given as goal

-- the names so far are different, and they are the set
abbrev pub invariant-loop-name : goal.invariant-loop-name
invariant-loop-name l = record {
  keys : l.set.keys ≡ take l.name-index l.names;
  different : are_different (take l.name-index l.names) ≡ true;
}
