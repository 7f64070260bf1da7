use Rattle.tracker_sight.proofs.Placed.{creates_tell_of_the_seen, moves_tell_of_the_seen}
use Rattle.tracker_sight.proofs.laws.places_tell_of_the_seen.Goals as goal

pub returns-clause-creates : goal.returns-clause-creates
returns-clause-creates c = creates_tell_of_the_seen

pub returns-clause-moves : goal.returns-clause-moves
returns-clause-moves c = moves_tell_of_the_seen
