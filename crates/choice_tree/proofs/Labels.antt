-- Nodes as the code holds them, beside what they stand for.
use Rattle.std.proofs.Common.{◌≡◌, List, [], ◌∷◌, map, refl, ap}
use Rattle.choice_tree.specs.declared.kids.Node.{Node}
use Rattle.choice_tree.specs.declared.kids.Node.TheVariants.{Leaf, Inner}
use Rattle.choice_tree.specs.Forest.{labels}
use Rattle.choice_tree.specs.Seen.{nodes_seen, label_of}

pub labels_seen : (nodes : List Node) → labels (nodes_seen nodes) ≡ map label_of nodes
labels_seen [] = refl
labels_seen (Leaf label weight ∷ nodes) = ap (λ rest. label ∷ rest) (labels_seen nodes)
labels_seen (Inner label weight kids ∷ nodes) = ap (λ rest. label ∷ rest) (labels_seen nodes)
