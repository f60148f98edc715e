use Rattle.std.proofs.Common.{◌≡◌, ◌+◌, ◌≤◌, ◌++◌, length, option_map}
use Rattle.trace_fields.specs.Numbers.{byte_reading}
use Rattle.trace_fields.specs.Readings.{all_of, pairs_of}
use Rattle.trace_fields.proofs.readings.bytes_of.Given as goal

-- the bytes so far, with those that are left, are all
abbrev pub invariant-loop-digits : goal.invariant-loop-digits
invariant-loop-digits l = record {
  short : length l.bytes.items ≤ 8;
  counted : length l.bytes.items + length (pairs_of l.left) ≡ length (pairs_of l.field);
  told : all_of byte_reading (pairs_of l.field) ≡ option_map (λ rest. l.bytes.items ++ rest) (all_of byte_reading (pairs_of l.left));
}

abbrev pub decreases-loop-digits : goal.decreases-loop-digits
decreases-loop-digits l = length (pairs_of l.left)
