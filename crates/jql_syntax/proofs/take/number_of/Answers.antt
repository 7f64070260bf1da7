use Rattle.jql_syntax.specs.Form.{of_number}
use Rattle.jql_syntax.proofs.take.number_of.Goals as goal

pub returns-in-Custom-clause-some : goal.returns-in-Custom-clause-some
returns-in-Custom-clause-some c = rw c.in-Custom.is of_number
