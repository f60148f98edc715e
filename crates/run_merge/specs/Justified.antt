-- Whatever stands in memory and registers beside what the lines fix, the harts do what the lines tell: so a value that is
-- fixed late harms no earlier step.
use Rattle.std.specs.Prelude.{ℕ, ◌≡◌, ◌<◌, List, map, Some, false}
use Rattle.rv_fields.specs.Effect.{Effect}
use Rattle.rv_fields.specs.Play.{Machine, Plays}
use Rattle.ram_image.specs.Pieces.{byte_in}
use Rattle.region_plan.specs.Plan.{Work, hart_count}
use Rattle.trace_text.specs.Lines.{Line, effects_of, starting}
use Rattle.boot_words.specs.Startup.{IsStart}
use Rattle.run_merge.specs.Image.{image_pieces}

-- The machine's memory is whole and has each byte that is placed, no link stands, and its harts stand at their start, with the
-- values that are fixed in their registers. Of two values for one byte or one register the first counts, so there are always
-- such machines.
pub record Starts (work : Work) (lines : List Line) (machine : Machine) : Type 0 where
  pub whole : (a : ℕ) → (b : ℕ) × (machine.seen.byte a ≡ Some b) × (b < 256)
  pub links : (h g : ℕ) → machine.seen.link h g ≡ Some false
  pub memory : (a b : ℕ) → byte_in (image_pieces work lines) a ≡ Some b → machine.seen.byte a ≡ Some b
  pub registers : (h r v : ℕ) → h < hart_count work → starting lines h r ≡ Some v → (machine.harts h).x r ≡ Some v
  pub harts : (h : ℕ) → h < hart_count work → IsStart work h (machine.harts h)

-- the harts of the steps, in the order of the lines
abbrev pub order_of : List Effect → List ℕ
order_of effects = map (λ (e : Effect). e.hart) effects

-- The harts of these steps do exactly what they tell, one after another, and lead the machine somewhere.
abbrev pub DoesAll : Machine → List Effect → Type 0
DoesAll machine effects = (end : Machine) × Plays machine (order_of effects) effects end

-- In the order of the lines, the harts of every machine that starts so do exactly what the step lines tell.
abbrev pub Justified : Work → List Line → Type 0
Justified work lines = (machine : Machine) → Starts work lines machine → DoesAll machine (effects_of lines)
