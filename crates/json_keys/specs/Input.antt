-- What reading an input file says.
use Rattle.std.specs.Prelude.{◌≡◌, ℕ, List, codes, Option, Some, None, Result, Ok, Err}
use Rattle.json_keys.specs.declared.input.InputFault.{InputFault}
use Rattle.json_keys.specs.declared.input.InputFault.TheVariants.{NotBuilt, Memory}

-- A result, seen by view, is what the file spells: NotBuilt exactly where it spells nothing. Memory may run out anywhere.
abbrev pub ReadsAs : {X Y : Type 0} → (X → Y) → Result X InputFault → Option Y → Type 0
ReadsAs view (Ok x) spelled = spelled ≡ Some (view x)
ReadsAs view (Err NotBuilt) spelled = spelled ≡ None
ReadsAs view (Err Memory) spelled = Unit {0}

-- the words for a fault
abbrev pub input_message : InputFault → List ℕ
input_message NotBuilt = codes "not built yet"
input_message Memory = codes "out of memory"
