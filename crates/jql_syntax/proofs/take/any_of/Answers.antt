use Rattle.jql_syntax.specs.Form.{of_any_word, of_any_name, of_any_quoted}
use Rattle.jql_syntax.proofs.take.any_of.Goals as goal

pub returns-in-Word-clause-some : goal.returns-in-Word-clause-some
returns-in-Word-clause-some c = rw c.in-Word.is of_any_word

pub returns-in-Name-clause-some : goal.returns-in-Name-clause-some
returns-in-Name-clause-some c = rw c.in-Name.is of_any_name

pub returns-in-Quoted-clause-some : goal.returns-in-Quoted-clause-some
returns-in-Quoted-clause-some c = rw c.in-Quoted.is of_any_quoted
