-- The order in which all harts step, their boots first.
use Rattle.std.specs.Prelude.{ℕ, List, ◌++◌}
use Rattle.rv_fields.specs.Effect.{Effect}
use Rattle.boot_words.specs.Passing.{boots_from}
use Rattle.run_merge.specs.Justified.{order_of}

-- the boots of all harts, and then the steps
abbrev pub whole_order : ℕ → List Effect → List ℕ
whole_order harts effects = boots_from 0 harts ++ order_of effects
