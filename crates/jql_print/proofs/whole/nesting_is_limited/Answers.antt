use Rattle.jql_print.proofs.Query.{query_nests}
use Rattle.jql_print.proofs.whole.nesting_is_limited.Goals as goal

pub returns : goal.returns
returns c = query_nests
