use Rattle.jql_syntax.specs.Form.{one, nothing, any_text}
use Rattle.jql_syntax.proofs.Reading.{reads_one, goes_first, goes_second, goes_nothing}
use Rattle.jql_syntax.proofs.read_value.read_optional.Goals as goal

pub returns-in_ok-copy-in-Some : goal.returns-in_ok-copy-in-Some
returns-in_ok-copy-in-Some c = rw c.in_ok-copy-in-Some.ensures (goes_first nothing (reads_one c.in-Some.ensures.some) c.in-Some.ensures.some)

pub returns-in-None : goal.returns-in-None
returns-in-None c = goes_second (one any_text) c.in-None.ensures.none (goes_nothing c.args.ts.now)
