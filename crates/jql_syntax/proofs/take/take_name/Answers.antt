use Rattle.jql_syntax.proofs.Reading.{taken}
use Rattle.jql_syntax.proofs.take.take_name.Goals as goal

pub returns-in-Some-name_of-clause-some : goal.returns-in-Some-name_of-clause-some
returns-in-Some-name_of-clause-some c = taken c.args.ts.now c.in-Some.rest.now c.in-Some.ensures.some c.in-Some-name_of.ensures.some
