use Rattle.rank_strings.proofs.Unique.{stepped_up, stepped_down}
use Rattle.rank_strings.proofs.laws.step_beside_a_lone_neighbour.Goals as goal

pub returns-clause-up : goal.returns-clause-up
returns-clause-up c = stepped_up

pub returns-clause-down : goal.returns-clause-down
returns-clause-down c = stepped_down
