use Rattle.jql_meaning.proofs.OwnSprint.{only_own_sprint_matters}
use Rattle.jql_meaning.proofs.laws.only_the_own_sprint_matters.Goals as goal

pub returns : goal.returns
returns c = only_own_sprint_matters
