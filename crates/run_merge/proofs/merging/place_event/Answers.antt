-- The event is in its slot.
use Rattle.std.proofs.Common.{Some}
use Rattle.std.specs.Option.{option_map}
use Rattle.std.proofs.lemmas.List.{map-set}
use Rattle.world_face.specs.Views.{event_seen}
use Rattle.run_merge.proofs.merging.place_event.Goals as goal

pub returns : goal.returns
returns c = map-set (option_map event_seen) c.args.slots.now c.args.placed.place (Some c.args.placed.event)
