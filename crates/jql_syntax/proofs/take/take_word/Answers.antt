use Rattle.jql_syntax.proofs.Reading.{taken}
use Rattle.jql_syntax.proofs.take.take_word.Goals as goal

pub returns-in-Some-word_of-clause-some : goal.returns-in-Some-word_of-clause-some
returns-in-Some-word_of-clause-some c = taken c.args.ts.now c.in-Some.rest.now c.in-Some.ensures.some c.in-Some-word_of.ensures.some
