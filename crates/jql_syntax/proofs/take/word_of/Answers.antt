use Rattle.jql_syntax.specs.Form.{of_bare_word, of_bare_name}
use Rattle.jql_syntax.proofs.take.word_of.Goals as goal

pub returns-in-Word-clause-some : goal.returns-in-Word-clause-some
returns-in-Word-clause-some c = rw c.in-Word.is of_bare_word

pub returns-in-Name-clause-some : goal.returns-in-Name-clause-some
returns-in-Name-clause-some c = rw c.in-Name.is of_bare_name
