-- What the contracts see of each store.
use Rattle.std.specs.Prelude.{ℕ, List, Some, None}
use Rattle.store_face.specs.declared.memory.MemStore.{MemStore}
use Rattle.store_face.specs.State.{State}
use Rattle.store_face.specs.Held.{files_held}

-- a store in memory tells what it holds
abbrev pub store_state : MemStore → State
store_state store = record {
  holds = Some (files_held store.files);
  read_faults = store.read_faults;
  write_faults = store.write_faults;
  last = store.last.items;
}

-- a store that doesn't tell what it holds
abbrev pub silent : ℕ → ℕ → List ℕ → State
silent reads writes last = record { holds = None; read_faults = reads; write_faults = writes; last = last }
