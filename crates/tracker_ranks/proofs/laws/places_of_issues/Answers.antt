use Rattle.tracker_ranks.proofs.Keeping.{new_issues_go_last, moves_change_one_rank}
use Rattle.tracker_ranks.proofs.laws.places_of_issues.Goals as goal

pub returns-clause-new : goal.returns-clause-new
returns-clause-new c = new_issues_go_last

pub returns-clause-moved : goal.returns-clause-moved
returns-clause-moved c = moves_change_one_rank
