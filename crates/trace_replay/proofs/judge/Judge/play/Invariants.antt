use Rattle.std.proofs.Common.{◌≡◌, List, [], length, take}
use Rattle.rv_fields.specs.Effect.{Effect}
use Rattle.rv_fields.specs.Play.{Plays}
use Rattle.rv_machine.specs.Views.{machine_seen}
use Rattle.trace_text.specs.Reading.{Unread}
use Rattle.trace_replay.specs.Judging.{HasJudgedSoFar}
use Rattle.trace_replay.proofs.judge.Judge.play.Given as goal

-- the effects of the turns so far are judged
abbrev pub invariant-loop-hart : goal.invariant-loop-hart
invariant-loop-hart l = record {
  count : length l.machine.harts.items ≡ length l.initial.machine.harts.items;
  judged : (effects : List Effect) × Plays (machine_seen l.initial.machine) (take l.hart-index l.order) effects (machine_seen l.machine)
      × ((start : Unread) → HasJudgedSoFar start [] l.initial.self → HasJudgedSoFar start effects l.self);
}
