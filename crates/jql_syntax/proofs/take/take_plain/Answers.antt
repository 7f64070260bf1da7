use Rattle.jql_syntax.proofs.Reading.{taken}
use Rattle.jql_syntax.proofs.take.take_plain.Goals as goal

pub returns-in-Some-plain_of-clause-some : goal.returns-in-Some-plain_of-clause-some
returns-in-Some-plain_of-clause-some c = taken c.args.ts.now c.in-Some.rest.now c.in-Some.ensures.some c.in-Some-plain_of.ensures.some
