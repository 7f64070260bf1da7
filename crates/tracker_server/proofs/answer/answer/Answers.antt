use Rattle.tracker_server.proofs.Answering.{exchanged_refused, exchanged_made}
use Rattle.tracker_server.proofs.answer.answer.Goals as goal

pub returns-in-Err-clause-answers : goal.returns-in-Err-clause-answers
returns-in-Err-clause-answers g c = exchanged_refused _ _ _ _ _ _ _ _ _ _ c.in-Err.ensures c.response_to.ensures

pub returns-in-Ok-clause-answers : goal.returns-in-Ok-clause-answers
returns-in-Ok-clause-answers g c =
    exchanged_made _ _ _ _ _ _ _ _ _ _ _ _ _ _ _ c.in-Ok.ensures c.make.ensures.made c.reply.ensures c.response_to-in-Ok.ensures
