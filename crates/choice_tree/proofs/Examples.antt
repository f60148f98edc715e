-- Words of two streams, and leaves that are picked. The words of seed 42 and stream 54 are those of the generator's reference code.
use Rattle.std.proofs.Common.{◌≡◌, ◌∷◌, [], codes, None, Some, refl}
use Rattle.rand_pcg.specs.Lcg.{state_after}
use Rattle.choice_tree.specs.Draws.{word_of}
use Rattle.choice_tree.specs.Forest.{Nodes, leaf_of, no_nodes, node_of}
use Rattle.choice_tree.specs.Trees.{leaf_by, reweighed}

first_word : word_of 42 54 0 ≡ 0x86b1da1d72062b68
unfolding state_after word_of
first_word = refl

second_word : word_of 42 54 1 ≡ 0x1304aa46c9853d39
unfolding state_after word_of
second_word = refl

sixth_word : word_of 42 54 5 ≡ 0x606121f8e3919196
unfolding state_after word_of
sixth_word = refl

word_of_another_stream : word_of 7 3 2 ≡ 0x02f76a2a14874273
unfolding state_after word_of
word_of_another_stream = refl

-- ---- picks, computed by hand from the rule: 5 is what the weights add up to on both levels

-- a leaf of weight 3, a node of weight 2 with leaves of weights 1 and 4, and a leaf of weight 0
abbrev some_nodes : Nodes
some_nodes = leaf_of (codes "add") 3 (node_of (codes "load") 2 (leaf_of (codes "lb") 1 (leaf_of (codes "lw") 4 no_nodes)) (leaf_of (codes "nop") 0 no_nodes))

in_the_first_interval : leaf_by some_nodes 2 ≡ Some (codes "add")
in_the_first_interval = refl

-- 3 modulo 5 is the node's, and 0 is left for its kids
below_the_node : leaf_by some_nodes 3 ≡ Some (codes "lb")
below_the_node = refl

-- 8 divided by 5 leaves 1 for them
further_below : leaf_by some_nodes 8 ≡ Some (codes "lw")
further_below = refl

nothing_weighs : leaf_by (leaf_of (codes "add") 0 no_nodes) 7 ≡ None
nothing_weighs = refl

another_weight : leaf_by (reweighed (codes "add" ∷ []) 0 some_nodes) 2 ≡ Some (codes "lw")
another_weight = refl
