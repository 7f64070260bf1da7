use Rattle.jql_print.proofs.Query.{text_reads}
use Rattle.jql_print.proofs.whole.printed_reads.Goals as goal

pub returns : goal.returns
returns c = λ text q keys u i l. (l, text_reads text q keys u i)
