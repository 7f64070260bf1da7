use Rattle.workflow.proofs.Differing.{net_is, differences_are_one}
use Rattle.workflow.proofs.laws.net_is_the_difference.Goals as goal

pub returns-clause-difference : goal.returns-clause-difference
returns-clause-difference c = net_is

pub returns-clause-one : goal.returns-clause-one
returns-clause-one c = differences_are_one
