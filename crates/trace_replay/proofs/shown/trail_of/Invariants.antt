use Rattle.std.proofs.Common.{◌≡◌, ◌≤◌, take}
use Rattle.sv_walk.specs.Views.{entries_of}
use Rattle.trace_replay.proofs.shown.trail_of.Given as goal

abbrev pub invariant-loop-place : goal.invariant-loop-place
invariant-loop-place l = record {
  within : l.place ≤ l.trail.len;
  shown : l.shown ≡ take l.place (entries_of l.trail.at l.trail.pte);
}
