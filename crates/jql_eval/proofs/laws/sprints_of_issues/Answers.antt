use Rattle.jql_eval.proofs.Sprints.{sprints_fit_one_field, one_sprint_is_held}
use Rattle.jql_eval.proofs.laws.sprints_of_issues.Goals as goal

pub returns-clause-field : goal.returns-clause-field
returns-clause-field c = sprints_fit_one_field

pub returns-clause-held : goal.returns-clause-held
returns-clause-held c = one_sprint_is_held
