use Rattle.std.proofs.Common.{◌≡◌, take}
use Rattle.choice_tree.proofs.kids.KidsClone.+clone.Given as goal

abbrev pub decreases-clone : goal.decreases-clone
decreases-clone l = goal.size-clone l

-- the nodes so far are copied
abbrev pub invariant-loop-node : goal.invariant-loop-node
invariant-loop-node l = l.nodes.items ≡ take l.node-index l.node-items
