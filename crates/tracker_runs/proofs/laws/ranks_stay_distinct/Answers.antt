use Rattle.tracker_runs.proofs.RunRanks.{trackers_have_ranks, new_trackers_have_ranks, runs_keep_ranks}
use Rattle.tracker_runs.proofs.laws.ranks_stay_distinct.Goals as goal

pub returns-clause-trackers : goal.returns-clause-trackers
returns-clause-trackers c = trackers_have_ranks

pub returns-clause-opening : goal.returns-clause-opening
returns-clause-opening c = new_trackers_have_ranks

pub returns-clause-runs : goal.returns-clause-runs
returns-clause-runs c = runs_keep_ranks
