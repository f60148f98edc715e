-- Kids that are read, level by level.
use Rattle.std.proofs.Common.{◌≡◌, ℕ, suc, Bool, true, false, List, map, Option, Some, None, Result, Err, Vec, Global, refl, ap, sym, subst, ◌∙◌, if◌then◌else◌}
use Rattle.serde_json.specs.Data.{Items as Values}
use Rattle.rv_fields.specs.Attempt.{◌>>=◌}
use Rattle.rv_fields.specs.Name.{Name}
use Rattle.json_keys.specs.declared.input.InputFault.{InputFault}
use Rattle.json_keys.specs.declared.input.InputFault.TheVariants.{NotBuilt, Memory}
use Rattle.json_keys.specs.Input.{ReadsAs}
use Rattle.choice_tree.specs.declared.kids.Node.{Node}
use Rattle.choice_tree.specs.Forest.{Nodes, kids_in, labels, nodes_by}
use Rattle.rv_fields.specs.Name.{are_different}
use Rattle.choice_tree.specs.Seen.{label_of, nodes_seen}
use Rattle.choice_tree.proofs.Labels.{labels_seen}

abbrev with_labels : Nodes → Option Nodes
with_labels nodes = if are_different (labels nodes) then Some nodes else None

pub no_levels : (levels : ℕ) (values : Values) → levels ≡ 0 → kids_in levels values ≡ None
unfolding kids_in
no_levels levels values none = rw none refl

one_level : (levels less : ℕ) (values : Values) → levels ≡ suc less → kids_in levels values ≡ (nodes_by (kids_in less) values >>= with_labels)
unfolding kids_in
one_level levels less values is = rw is refl

-- a result is a fault, as what it stands on
pub kids_unread : (levels less : ℕ) (values : Values) (fault : InputFault) (result : Result Nodes InputFault) → levels ≡ suc less
    → ReadsAs {X = Vec Node Global} (λ v. nodes_seen v.items) (Err fault) (nodes_by (kids_in less) values) → result ≡ Err fault
    → ReadsAs (λ kids. kids) result (kids_in levels values)
kids_unread levels less values fault result is read fails =
    subst (λ r. ReadsAs (λ kids. kids) r (kids_in levels values)) (sym fails) (by fault read)
  where
    by : (fault : InputFault) → ReadsAs {X = Vec Node Global} (λ v. nodes_seen v.items) (Err fault) (nodes_by (kids_in less) values)
        → ReadsAs {X = Nodes} (λ kids. kids) (Err fault) (kids_in levels values)
    by NotBuilt none = one_level levels less values is ∙ ap (λ m. m >>= with_labels) none
    by Memory none = tt

read_labels : (levels less : ℕ) (values : Values) (nodes : List Node) → levels ≡ suc less → nodes_by (kids_in less) values ≡ Some (nodes_seen nodes)
    → kids_in levels values ≡ (if are_different (map label_of nodes) then Some (nodes_seen nodes) else None)
read_labels levels less values nodes is read =
    one_level levels less values is ∙ ap (λ m. m >>= with_labels) read
    ∙ ap (λ names. if are_different names then Some (nodes_seen nodes) else None) (labels_seen nodes)

pub kids_twice : {X : Type 0} (view : X → List Name) (levels less : ℕ) (values : Values) (nodes : List Node) (names : List Name) (fault : InputFault) (result : Result Nodes InputFault)
    → levels ≡ suc less → nodes_by (kids_in less) values ≡ Some (nodes_seen nodes) → names ≡ map label_of nodes
    → ReadsAs view (Err fault) (if are_different names then Some names else None) → result ≡ Err fault
    → ReadsAs (λ kids. kids) result (kids_in levels values)
kids_twice {X} view levels less values nodes names fault result is read labelled refused fails =
    subst (λ r. ReadsAs (λ kids. kids) r (kids_in levels values)) (sym fails) (by fault refused)
  where
    twice : (b : Bool) → (if b then Some names else None) ≡ None → (if b then Some (nodes_seen nodes) else None) ≡ None
    twice true e = absurd cc
    twice false e = refl

    by : (fault : InputFault) → ReadsAs {X = X} view (Err fault) (if are_different names then Some names else None)
        → ReadsAs {X = Nodes} (λ kids. kids) (Err fault) (kids_in levels values)
    by NotBuilt none =
        read_labels levels less values nodes is read ∙ ap (λ ns. if are_different ns then Some (nodes_seen nodes) else None) (sym labelled) ∙ twice (are_different names) none
    by Memory none = tt

pub kids_read : (levels less : ℕ) (values : Values) (nodes : List Node) (names keys : List Name)
    → levels ≡ suc less → nodes_by (kids_in less) values ≡ Some (nodes_seen nodes) → names ≡ map label_of nodes
    → (if are_different names then Some names else None) ≡ Some keys → kids_in levels values ≡ Some (nodes_seen nodes)
kids_read levels less values nodes names keys is read labelled different =
    read_labels levels less values nodes is read ∙ ap (λ ns. if are_different ns then Some (nodes_seen nodes) else None) (sym labelled) ∙ once (are_different names) different
  where
    once : (b : Bool) → (if b then Some names else None) ≡ Some keys → (if b then Some (nodes_seen nodes) else None) ≡ Some (nodes_seen nodes)
    once true e = refl
    once false e = absurd cc
