use Rattle.std.proofs.Common.{rules}
use Rattle.tracker_server.proofs.Telling.{told_pushed}
use Rattle.tracker_server.proofs.direct.DirectTeller.tell.Goals as goal

pub returns-clause-told : goal.returns-clause-told
returns-clause-told g c = told_pushed _ _ _ _ _ _ c.args.caller.now c.args.call.now c.call-reply.result (search rules) c.call-reply.ensures
