-- Weights that are set in a list of nodes.
use Rattle.std.proofs.Common.{◌≡◌, ℕ, zero, suc, add-one, ◌==◌, if◌then◌else◌, ◌+◌, ◌<◌, ◌≤◌, Bool, true, false, List, [], ◌∷◌, ◌++◌, length, take, drop, set, get_or, refl, ap, sym, ◌∙◌, arith}
use Rattle.std.specs.Str.{bytes_eq}
use Rattle.std.proofs.lemmas.Bool.{eqb-true}
use Rattle.rv_fields.specs.Name.{Name}
use Rattle.choice_tree.specs.declared.kids.Node.{Node}
use Rattle.choice_tree.specs.Forest.{Nodes, ahead, leaves, no_nodes, leaf_of, node_of}
use Rattle.choice_tree.specs.Seen.{all_ahead, nodes_seen}
use Rattle.choice_tree.specs.Trees.{leads_to, reweighed}

-- no path leads to no node
pub reweighed_nowhere : (weight : ℕ) (nodes : Nodes) → reweighed [] weight nodes ≡ nodes
reweighed_nowhere weight no_nodes = refl
reweighed_nowhere weight (leaf_of label held rest) = ap (leaf_of label held) (reweighed_nowhere weight rest)
reweighed_nowhere weight (node_of label held kids rest) = ap (node_of label held kids) (reweighed_nowhere weight rest)

-- the node itself
pub reweighed_here : (first label : Name) (rest : List Name) (weight held : ℕ) (kids others : Nodes) → bytes_eq first label ≡ true → (length rest == 0) ≡ true
    → reweighed (first ∷ rest) weight (node_of label held kids others) ≡ node_of label weight kids (reweighed (first ∷ rest) weight others)
reweighed_here first label [] weight held kids others same none = rw same (rw (reweighed_nowhere weight kids) refl)
reweighed_here first label (next ∷ path) weight held kids others same none = absurd (omega (arith, eqb-true (length (next ∷ path)) 0 none))

-- a node below it
pub reweighed_below : (first label : Name) (rest : List Name) (weight held : ℕ) (kids others : Nodes) → bytes_eq first label ≡ true → (length rest == 0) ≡ false
    → reweighed (first ∷ rest) weight (node_of label held kids others) ≡ node_of label held (reweighed rest weight kids) (reweighed (first ∷ rest) weight others)
reweighed_below first label [] weight held kids others same some = absurd cc
reweighed_below first label (next ∷ path) weight held kids others same some = rw same refl

pub nowhere_at : (path : List Name) (weight : ℕ) (nodes : Nodes) → length path ≡ 0 → nodes ≡ reweighed path weight nodes
nowhere_at [] weight nodes none = sym (reweighed_nowhere weight nodes)
nowhere_at (first ∷ path) weight nodes none = absurd (omega (arith, none))

-- the nodes up to a place have their new weights
abbrev Up : List Name → ℕ → List Node → ℕ → Nodes
Up path weight nodes i = all_ahead (take i nodes) (reweighed path weight (nodes_seen (drop i nodes)))

one_up : (path : List Name) (weight : ℕ) (nodes : List Node) (i : ℕ) (old new : Node) → i < length nodes → old ≡ get_or nodes i old
    → ((others : Nodes) → reweighed path weight (ahead old others) ≡ ahead new (reweighed path weight others))
    → Up path weight (set nodes i new) (suc i) ≡ Up path weight nodes i
one_up path weight [] i old new small at sets = absurd (omega (arith, small))
one_up path weight (node ∷ nodes) zero old new small at sets =
    let is : node ≡ old = sym at in sym (sets (nodes_seen nodes)) ∙ ap (λ n. reweighed path weight (ahead n (nodes_seen nodes))) (sym is)
one_up path weight (node ∷ nodes) (suc i) old new small at sets = ap (ahead node) (one_up path weight nodes i old new (omega (arith, small)) at sets)

pub weight_more : (path : List Name) (weight : ℕ) (nodes : List Node) (i : ℕ) (old new : Node) (all : Nodes) → i < length nodes → old ≡ get_or nodes i old
    → ((others : Nodes) → reweighed path weight (ahead old others) ≡ ahead new (reweighed path weight others))
    → Up path weight nodes i ≡ all → Up path weight (set nodes i new) (i + 1) ≡ all
weight_more path weight nodes i old new all small at sets so_far =
    ap (λ k. Up path weight (set nodes i new) k) (add-one i) ∙ one_up path weight nodes i old new small at sets ∙ so_far

all_up : (path : List Name) (weight : ℕ) (nodes : List Node) (i : ℕ) → length nodes ≤ i → Up path weight nodes i ≡ nodes_seen nodes
all_up path weight [] zero end = refl
all_up path weight [] (suc i) end = refl
all_up path weight (node ∷ nodes) zero end = absurd (omega (arith, end))
all_up path weight (node ∷ nodes) (suc i) end = ap (ahead node) (all_up path weight nodes i (omega (arith, end)))

-- all nodes have theirs
pub weights_all : (path : List Name) (weight : ℕ) (nodes : List Node) (i : ℕ) (all : Nodes) → length nodes ≤ i
    → Up path weight nodes i ≡ all → nodes_seen nodes ≡ all
weights_all path weight nodes i all end so_far = sym (all_up path weight nodes i end) ∙ so_far

-- ---- leaves

chosen : (b : Bool) (x kids : Nodes) → leaves x ≡ leaves kids → leaves (if b then x else kids) ≡ leaves kids
chosen true x kids same = same
chosen false x kids same = refl

-- other weights, the same leaves
pub leaves_kept : (path : List Name) (weight : ℕ) (nodes : Nodes) → leaves (reweighed path weight nodes) ≡ leaves nodes
leaves_kept path weight no_nodes = refl
leaves_kept path weight (leaf_of label held rest) = ap (λ names. label ∷ names) (leaves_kept path weight rest)
leaves_kept path weight (node_of label held kids rest) =
    ap (λ names. names ++ leaves (reweighed path weight rest)) (chosen (leads_to path label) (reweighed (drop 1 path) weight kids) kids (leaves_kept (drop 1 path) weight kids))
    ∙ ap (λ names. leaves kids ++ names) (leaves_kept path weight rest)
