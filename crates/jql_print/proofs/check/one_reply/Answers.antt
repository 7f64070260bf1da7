use Rattle.jql_print.proofs.Answered.{one_reply}
use Rattle.jql_print.proofs.check.one_reply.Goals as goal

pub returns : goal.returns
returns c = one_reply
