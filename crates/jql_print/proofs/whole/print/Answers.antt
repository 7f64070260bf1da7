use Rattle.std.specs.Prelude.{option_map}
use Rattle.jql_syntax.specs.View.{view}
use Rattle.jql_print.proofs.Query.{written_again}
use Rattle.jql_print.proofs.whole.print.Goals as goal

pub returns-clause-again : goal.returns-clause-again
returns-clause-again c = written_again (option_map view c.args.query.now.0) c.args.query.now.1 c.spelled.result c.spelled.ensures.written c.spelled.ensures.spelling
