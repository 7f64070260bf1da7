use Rattle.tracker_server.proofs.Serving.{serves_more}
use Rattle.tracker_server.proofs.serve.+serve_rest.Goals as goal

pub returns-in-Goes-clause-serves : goal.returns-in-Goes-clause-serves
returns-in-Goes-clause-serves g t c =
    serves_more _ _ _ _ _ _ _ _ _ _ _ _ _ _ _ _ _ _ c.in-Goes.ensures.worker c.in-Goes.ensures.serves c.serve_rest.ensures.serves
