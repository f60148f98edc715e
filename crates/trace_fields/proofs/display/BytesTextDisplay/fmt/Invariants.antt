use Rattle.std.proofs.Common.{take}
use Rattle.std.specs.Fmt.{HasWritten, IsPlainFormatter}
use Rattle.std.specs.List.{flat_map}
use Rattle.trace_fields.specs.Text.{byte_text}
use Rattle.trace_fields.proofs.display.BytesTextDisplay.fmt.Given as goal

-- the text of the bytes so far
abbrev pub invariant-loop-byte : goal.invariant-loop-byte
invariant-loop-byte g l =
    IsPlainFormatter l.fn.f → HasWritten g.W.Write.write_str_gives l.fn.f (flat_map byte_text (take l.byte-index l.self.0.now)) l.f
