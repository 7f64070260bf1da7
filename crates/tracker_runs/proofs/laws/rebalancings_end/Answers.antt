use Rattle.tracker_runs.proofs.OtherLines.{others_leave_ranks}
use Rattle.tracker_runs.proofs.RebalancingsEnd.{rebalancings_end}
use Rattle.tracker_runs.proofs.laws.rebalancings_end.Goals as goal

pub returns-clause-others : goal.returns-clause-others
returns-clause-others c = others_leave_ranks

pub returns-clause-ends : goal.returns-clause-ends
returns-clause-ends c = rebalancings_end
