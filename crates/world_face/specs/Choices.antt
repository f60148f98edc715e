-- The choices as a part: the trees with the weights that stand.
use Rattle.std.specs.Prelude.{IsTrue, None, Option, Some, get_or, ℕ, ◌≡◌, []}
use Rattle.choice_tree.specs.Forest.{Forest}
use Rattle.choice_tree.specs.Trees.{has_path, kids_of, leaf_by, with_weight}
use Rattle.region_plan.specs.Plan.{Work}
use Rattle.rv_fields.specs.Name.{Name}
use Rattle.world_face.specs.Events.{Event}
use Rattle.world_face.specs.Told.{Weighing, leaf_told, weighing_told}

-- A pick tells the leaf that the weights and the drawn word make, or none where they make none.
abbrev pub PicksRight : Work → Forest → Option (ℕ × ℕ) → Option Name → Type 0
PicksRight work forest None told = told ≡ None
PicksRight work forest (Some pick) told = told ≡ leaf_by (kids_of forest (get_or work.trees pick.0 [])) pick.1

abbrev pub WeighsRight : Forest → Option Weighing → Type 0
WeighsRight forest None = Unit {0}
WeighsRight forest (Some w) = IsTrue (has_path w.path (kids_of forest w.tree))

abbrev pub choices_legal : Work → Forest → Event → Type 0
choices_legal work forest e = PicksRight work forest e.asked.pick (leaf_told e) × WeighsRight forest (weighing_told e)

abbrev pub weighed_by : Forest → Option Weighing → Forest
weighed_by forest None = forest
weighed_by forest (Some w) = with_weight forest w.tree w.path w.weight

abbrev pub choices_after : Forest → Event → Forest
choices_after forest e = weighed_by forest (weighing_told e)
