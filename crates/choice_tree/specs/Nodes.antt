-- The nodes of a choice tree.
use Rattle.std.specs.Prelude.{ℕ}
use Rattle.rv_fields.specs.Name.{Name}

-- Nodes with their labels and weights, in order: a leaf and the nodes behind it, or a node with its kids and those behind it.
pub data Nodes : Type 0 where
  no_nodes : Nodes
  leaf_of : Name → ℕ → Nodes → Nodes
  node_of : Name → ℕ → Nodes → Nodes → Nodes

pub record Tree : Type 0 where
  pub name : Name
  pub kids : Nodes
