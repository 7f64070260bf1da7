use Rattle.rank_balancer.proofs.Ends.{steps_end}
use Rattle.rank_balancer.proofs.laws.steps_end.Goals as goal

pub returns : goal.returns
returns c = steps_end
