use Rattle.jql_syntax.specs.Node.{ascending, descending}
use Rattle.jql_syntax.specs.Form.{rule}
use Rattle.jql_syntax.specs.Grammar.{key}
use Rattle.jql_syntax.specs.declared.token.Mark.TheVariants.{Ascending, Descending}
use Rattle.jql_syntax.proofs.Reading.{reads_one, goes_rule, goes_first, goes_second, goes_nothing}
use Rattle.jql_syntax.proofs.read_query.read_direction.Goals as goal

pub returns-in-Some : goal.returns-in-Some
returns-in-Some c = goes_first _ (reads_one c.in-Some.ensures.some) (goes_rule ascending c.in-Some.ensures.some)

pub returns-in-Some-take : goal.returns-in-Some-take
returns-in-Some-take c = goes_second (rule ascending (key Ascending)) c.in_default.ensures.none (goes_first _ (reads_one c.in-Some-take.ensures.some) (goes_rule descending c.in-Some-take.ensures.some))

pub returns-in-None : goal.returns-in-None
returns-in-None c = goes_second (rule ascending (key Ascending)) c.in_default.ensures.none (goes_second (rule descending (key Descending)) c.in-None.ensures.none (goes_nothing c.args.ts.now))
