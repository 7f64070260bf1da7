use Rattle.jql_print.proofs.Answered.{answered}
use Rattle.jql_print.proofs.check.some_reply.Goals as goal

pub returns : goal.returns
returns c = answered
