use Rattle.jql_eval.proofs.Rights.{stays_right, right_elsewhere}
use Rattle.jql_eval.proofs.laws.right_verdicts.Goals as goal

pub returns-clause-later : goal.returns-clause-later
returns-clause-later c = stays_right

pub returns-clause-elsewhere : goal.returns-clause-elsewhere
returns-clause-elsewhere c = right_elsewhere
