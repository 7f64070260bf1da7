use Rattle.burndown.proofs.Sums.{courses_are_sums, room_changes_nothing}
use Rattle.burndown.proofs.laws.courses_are_sums.Goals as goal

pub returns-clause-sums : goal.returns-clause-sums
returns-clause-sums c = courses_are_sums

pub returns-clause-room : goal.returns-clause-room
returns-clause-room c = room_changes_nothing
