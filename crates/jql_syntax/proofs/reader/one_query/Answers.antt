use Rattle.jql_syntax.specs.Tokens.{words, tokens}
use Rattle.jql_syntax.proofs.Whole.{one_query}
use Rattle.jql_syntax.proofs.reader.one_query.Goals as goal

pub returns : goal.returns
returns c = λ text q r keys other i j. one_query (words (tokens text)) q r keys other i.1 j.1
