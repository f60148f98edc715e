-- From every reset the harts boot, and then do what the lines tell.
use Rattle.std.specs.Prelude.{List}
use Rattle.rv_fields.specs.Memory.{whole}
use Rattle.rv_fields.specs.Play.{Machine}
use Rattle.region_plan.specs.Plan.{Work, hart_count}
use Rattle.trace_text.specs.Lines.{Line, effects_of}
use Rattle.boot_words.specs.Passing.{IsAtReset, PlaysAsTold}
use Rattle.run_merge.specs.Image.{image}
use Rattle.run_merge.specs.Order.{whole_order}

-- Over the image, and from any resets, the harts step in the whole order: each boots, and behind the boots they do exactly what the
-- step lines tell.
abbrev pub FromReset : Work → List Line → Type 0
FromReset work lines = (machine : Machine) → IsAtReset (hart_count work) (whole (image work lines)) machine
    → PlaysAsTold (hart_count work) (whole_order (hart_count work) (effects_of lines)) (effects_of lines) machine
