use Rattle.tracker_ranks.proofs.Keeping.{starts_keep_ranks, steps_keep_ranks, plans_are_picks}
use Rattle.tracker_ranks.proofs.laws.rebalancing.Goals as goal

pub returns-clause-start : goal.returns-clause-start
returns-clause-start c = starts_keep_ranks

pub returns-clause-step : goal.returns-clause-step
returns-clause-step c = steps_keep_ranks

pub returns-clause-planned : goal.returns-clause-planned
returns-clause-planned c = plans_are_picks
