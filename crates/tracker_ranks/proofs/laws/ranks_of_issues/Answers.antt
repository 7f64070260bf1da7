use Rattle.tracker_ranks.proofs.Given.{gives_one_rank, ranks_differ}
use Rattle.tracker_ranks.proofs.Keeping.{no_issue_is_ranked, numbers_are_ranked}
use Rattle.tracker_ranks.proofs.laws.ranks_of_issues.Goals as goal

pub returns-clause-none : goal.returns-clause-none
returns-clause-none c = no_issue_is_ranked

pub returns-clause-there : goal.returns-clause-there
returns-clause-there c = numbers_are_ranked

pub returns-clause-differ : goal.returns-clause-differ
returns-clause-differ c = ranks_differ

pub returns-clause-given : goal.returns-clause-given
returns-clause-given c = gives_one_rank
