use Rattle.jql_meaning.proofs.Sprints.{phase_is_set, sprint_is_added, others_stand}
use Rattle.jql_meaning.proofs.laws.one_sprint_differs.Goals as goal

pub returns-clause-set : goal.returns-clause-set
returns-clause-set c = phase_is_set

pub returns-clause-added : goal.returns-clause-added
returns-clause-added c = sprint_is_added

pub returns-clause-others : goal.returns-clause-others
returns-clause-others c = others_stand
