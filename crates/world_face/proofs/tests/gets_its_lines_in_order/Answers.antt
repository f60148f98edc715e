-- The event has room for a second line.
use Rattle.world_face.proofs.tests.gets_its_lines_in_order.Goals as goal

pub add-requires-2 : goal.add-requires-2
add-requires-2 g c = c.add.ensures.room 1 c.in_ok-event.ensures.room
