-- The parts that are left of a text.
use Rattle.std.specs.Prelude.{ℕ, ◌==◌, List, [], Option, Some, None, option_map}
use Rattle.std.specs.List.{slice_split}
use Rattle.trace_fields.specs.declared.parts.Parts.{Parts}

abbrev pub split_left : ℕ → Option (List ℕ) → List (List ℕ)
split_left by None = []
split_left by (Some text) = slice_split (λ b. b == by) text

abbrev pub parts_left : Parts → List (List ℕ)
parts_left p = split_left p.by (option_map (λ text. text.now) p.left)
