-- Nodes as lists of words, from which they can be told.
use Rattle.std.specs.Prelude.{◌≡◌, ℕ, Bool, true, false, List, [], ◌∷◌, Option, Some, None, if◌then◌else◌, refl}
use Rattle.std.specs.Coded.{Coded, code_by, coded×, coded_ℕ, coded_bool, coded_list, coded_option}
use Rattle.std.proofs.Common.{ap, ◌∙◌}
use Rattle.rv_fields.specs.Name.{Name}
use Rattle.choice_tree.specs.Nodes.{Nodes, Tree, no_nodes, leaf_of, node_of}

-- the end of a list of nodes, or a node: whether it is an inner one, its label and its weight
abbrev pub Word : Type 0
Word = Option (Bool × (Name × ℕ))

-- the words of nodes, ahead of other words
abbrev pub words_of : Nodes → List Word → List Word
words_of no_nodes behind = None ∷ behind
words_of (leaf_of label weight rest) behind = Some (false, (label, weight)) ∷ words_of rest behind
words_of (node_of label weight kids rest) behind = Some (true, (label, weight)) ∷ words_of kids (words_of rest behind)

abbrev pub leaf_before : Name → ℕ → List Nodes → List Nodes
leaf_before label weight [] = []
leaf_before label weight (rest ∷ lists) = leaf_of label weight rest ∷ lists

abbrev pub inner_before : Name → ℕ → List Nodes → List Nodes
inner_before label weight [] = []
inner_before label weight (kids ∷ []) = []
inner_before label weight (kids ∷ rest ∷ lists) = node_of label weight kids rest ∷ lists

-- the lists of nodes that words spell, with one more word ahead of them
abbrev pub with_node_word : Word → List Nodes → List Nodes
with_node_word None lists = no_nodes ∷ lists
with_node_word (Some node) lists = if node.0 then inner_before node.1.0 node.1.1 lists else leaf_before node.1.0 node.1.1 lists

abbrev pub lists_from : List Word → List Nodes
lists_from [] = []
lists_from (word ∷ words) = with_node_word word (lists_from words)

abbrev pub first_list : List Nodes → Nodes
first_list [] = no_nodes
first_list (nodes ∷ lists) = nodes

pub lists_from-words_of : (nodes : Nodes) (behind : List Word) → lists_from (words_of nodes behind) ≡ nodes ∷ lists_from behind
lists_from-words_of no_nodes behind = refl
lists_from-words_of (leaf_of label weight rest) behind = ap (leaf_before label weight) (lists_from-words_of rest behind)
lists_from-words_of (node_of label weight kids rest) behind =
    ap (inner_before label weight) (lists_from-words_of kids (words_of rest behind) ∙ ap (λ lists. kids ∷ lists) (lists_from-words_of rest behind))

abbrev pub coded_nodes : Coded Nodes
coded_nodes =
    code_by (List Word) (coded_list (coded_option (coded× coded_bool (coded× (coded_list coded_ℕ) coded_ℕ))))
    (λ nodes. words_of nodes []) (λ words. first_list (lists_from words)) (λ nodes. ap first_list (lists_from-words_of nodes []))

abbrev pub coded_tree : Coded Tree
coded_tree =
    code_by (Name × Nodes) (coded× (coded_list coded_ℕ) coded_nodes) (λ tree. (tree.name, tree.kids))
    (λ parts. record { name = parts.0; kids = parts.1 }) (λ _. refl)
