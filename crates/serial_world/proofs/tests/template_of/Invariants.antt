-- The requests so far can be made.
use Rattle.std.proofs.Common.{◌-◌, ◌≡◌, ◌≤◌, length, vec_len}
use Rattle.std.specs.List.{AllByRecursion}
use Rattle.region_plan.specs.Rules.{IsMakeable}
use Rattle.region_plan.specs.Script.{script_of}
use Rattle.region_plan.specs.Views.{items_seen}
use Rattle.serial_world.proofs.tests.template_of.Given as goal

abbrev pub invariant-loop-template : goal.invariant-loop-template
invariant-loop-template l = record {
  few : vec_len l.template ≤ l.requests;
  many : length (script_of (items_seen l.template.items)) ≡ vec_len l.template;
  makeable : AllByRecursion IsMakeable (script_of (items_seen l.template.items));
}

abbrev pub decreases-loop-template : goal.decreases-loop-template
decreases-loop-template l = l.requests - vec_len l.template
