use Rattle.tracker_runs.proofs.MovedIssue.{moves_are_of_one_issue}
use Rattle.tracker_runs.proofs.laws.moves_are_of_one_issue.Goals as goal

pub returns : goal.returns
returns c = moves_are_of_one_issue
