use Rattle.tracker_sight.proofs.Bodies.{bodies_ask_as_lines}
use Rattle.tracker_sight.proofs.laws.bodies_ask_as_lines.Goals as goal

pub returns : goal.returns
returns c = bodies_ask_as_lines
