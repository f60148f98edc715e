-- The event takes the next place.
use Rattle.world_face.specs.Views.{event_seen}
use Rattle.serial_world.proofs.Numbering.{in_turn_more}
use Rattle.serial_world.proofs.world.SerialWorldWorld.commit.Goals as goal

pub returns-clause-stands : goal.returns-clause-stands
returns-clause-stands c = λ events stand. in_turn_more c.args.self.now.place events (event_seen c.args._event.now) stand
