use Rattle.board.proofs.Issues.{places_go_by_issues, issues_are_moved}
use Rattle.board.proofs.laws.places_by_issues.Goals as goal

pub returns-clause-same : goal.returns-clause-same
returns-clause-same c = places_go_by_issues

pub returns-clause-moved : goal.returns-clause-moved
returns-clause-moved c = issues_are_moved
