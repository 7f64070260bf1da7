use Rattle.jql_meaning.proofs.Spans.{was_is_of_some_span}
use Rattle.jql_meaning.proofs.laws.past_of_some_span.Goals as goal

pub returns : goal.returns
returns c = was_is_of_some_span
