use Rattle.std.proofs.Common.{◌≡◌, ◌-◌, ◌≤◌, List}
use Rattle.rv_fields.specs.Effect.{Effect}
use Rattle.trace_replay.specs.Comparing.{boots_differ}
use Rattle.trace_replay.specs.Judging.{AreBoots}
use Rattle.trace_replay.proofs.judge.Judge.boot_difference.Given as goal

-- the first hart whose boot doesn't pass is none of those before
abbrev pub invariant-loop-hart : goal.invariant-loop-hart
invariant-loop-hart l = record {
  within : l.hart ≤ l.harts;
  left : (effects : List Effect) → AreBoots l.self.boots effects → boots_differ 0 l.harts effects ≡ boots_differ l.hart (l.harts - l.hart) effects;
}
