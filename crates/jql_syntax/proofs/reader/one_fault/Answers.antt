use Rattle.jql_syntax.proofs.Fronts.{one_text_fault}
use Rattle.jql_syntax.proofs.reader.one_fault.Goals as goal

pub returns : goal.returns
returns c = one_text_fault
