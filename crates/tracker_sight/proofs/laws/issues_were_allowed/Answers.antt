use Rattle.tracker_sight.proofs.Grown.{issues_were_created, issues_were_allowed}
use Rattle.tracker_sight.proofs.laws.issues_were_allowed.Goals as goal

pub returns-clause-runs : goal.returns-clause-runs
returns-clause-runs c = issues_were_created

pub returns-clause-all : goal.returns-clause-all
returns-clause-all c = issues_were_allowed
