-- The harts so far keep the rules.
use Rattle.std.proofs.Common.{◌≡◌, length, map}
use Rattle.std.specs.List.{AllByRecursion}
use Rattle.region_plan.specs.Rules.{IsPlainHart}
use Rattle.region_plan.specs.Views.{harts_seen, items_seen}
use Rattle.serial_world.proofs.tests.job_of.Given as goal

abbrev pub invariant-loop-count : goal.invariant-loop-count
invariant-loop-count l = record {
  harts : length l.harts.items ≡ l.count-index;
  templates : length l.templates.items ≡ l.count-index;
  plain : AllByRecursion IsPlainHart (harts_seen l.harts.items (map (λ t. items_seen t.items) l.templates.items));
}
