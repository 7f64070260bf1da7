use Rattle.jql_syntax.specs.Form.{of_word, of_quoted}
use Rattle.jql_syntax.proofs.take.plain_of.Goals as goal

pub returns-in-Word-clause-some : goal.returns-in-Word-clause-some
returns-in-Word-clause-some c = rw c.in-Word.is of_word

pub returns-in-Quoted-clause-some : goal.returns-in-Quoted-clause-some
returns-in-Quoted-clause-some c = rw c.in-Quoted.is of_quoted
