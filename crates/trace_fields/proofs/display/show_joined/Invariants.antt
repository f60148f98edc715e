use Rattle.std.proofs.Common.{◌≡◌, ◌+◌, ℕ, List, map, take, Some}
use Rattle.std.specs.Fmt.{HasWritten, IsPlainFormatter}
use Rattle.trace_fields.specs.Text.{joined_by}
use Rattle.trace_fields.proofs.display.show_joined.Given as goal

-- the first part, and those so far of the rest
abbrev pub invariant-loop-part : goal.invariant-loop-part
invariant-loop-part g l =
    (text : g.row.T.Denot → List ℕ) → ((part : g.row.T.Denot) → g.T.Display.output part ≡ Some (text part)) → IsPlainFormatter l.fn.f
    → HasWritten g.W.Write.write_str_gives l.fn.f (joined_by l.separator (map text (take (l.part-index + 1) l.parts))) l.f
