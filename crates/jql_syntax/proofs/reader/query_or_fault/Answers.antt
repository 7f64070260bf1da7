use Rattle.jql_syntax.proofs.Total.{text_decided}
use Rattle.jql_syntax.proofs.reader.query_or_fault.Goals as goal

pub returns : goal.returns
returns c = text_decided
