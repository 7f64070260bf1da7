use Rattle.jql_syntax.specs.Form.{of_name}
use Rattle.jql_syntax.proofs.take.name_of.Goals as goal

pub returns-in-Name-clause-some : goal.returns-in-Name-clause-some
returns-in-Name-clause-some c = rw c.in-Name.is of_name
