use Rattle.tracker_http.specs.HeadFaults.{refused}
use Rattle.tracker_server.proofs.Refusals.{refused_status}
use Rattle.tracker_server.proofs.Serving.{serves_closed, serves_failed, serves_unmade, serves_end, serves_cut, serves_nothing, serves_refused, serves_refused_failed, serves_refused_unmade}
use Rattle.tracker_server.proofs.serve.serve_next.Goals as goal

pub refuse-requires : goal.refuse-requires
refuse-requires g c =
    let it = c.in-Refused.ensures.bytes in
    refused_status it.0 (refused c.in-Refused.status c.in-Refused.allow) c.in-Refused.head it.1

pub returns-then-close-clause-serves : goal.returns-then-close-clause-serves
returns-then-close-clause-serves g c =
    serves_closed _ _ _ _ _ _ _ _ _ _ _ _ _ _ _ c.closes-close.ensures c.if-close.true c.in-Request.ensures.bytes c.in-Whole.ensures.answers

pub returns-in-Failed-clause-serves : goal.returns-in-Failed-clause-serves
returns-in-Failed-clause-serves g c =
    serves_failed _ _ _ _ _ _ _ _ _ _ _ _ _ _ _ c.closes-close.ensures c.in-Request.ensures.bytes c.in-Failed.ensures.answers

pub returns-in-Memory-exchange-clause-serves : goal.returns-in-Memory-exchange-clause-serves
returns-in-Memory-exchange-clause-serves g c =
    serves_unmade _ _ _ _ _ _ _ _ _ _ _ _ _ _ _ c.closes-close.ensures c.in-Request.ensures.bytes c.in-Memory-exchange.ensures.answers

pub returns-in-Whole-refuse-clause-serves : goal.returns-in-Whole-refuse-clause-serves
returns-in-Whole-refuse-clause-serves g c =
    let it = c.in-Refused.ensures.bytes in
    serves_refused _ _ _ _ _ _ _ _ _ _ _ it.0 (refused c.in-Refused.status c.in-Refused.allow) c.in-Refused.head it.1 it.2 c.in-Whole-refuse.ensures.bytes

pub returns-in-Failed-refuse-clause-serves : goal.returns-in-Failed-refuse-clause-serves
returns-in-Failed-refuse-clause-serves g c =
    let it = c.in-Refused.ensures.bytes in
    serves_refused_failed _ _ _ _ _ _ _ _ _ _ _ it.0 (refused c.in-Refused.status c.in-Refused.allow) c.in-Refused.head it.1 it.2 c.in-Failed-refuse.ensures.bytes

pub returns-in-Memory-refuse-clause-serves : goal.returns-in-Memory-refuse-clause-serves
returns-in-Memory-refuse-clause-serves g c =
    let it = c.in-Refused.ensures.bytes in
    serves_refused_unmade _ _ _ _ _ _ _ _ _ _ _ it.0 (refused c.in-Refused.status c.in-Refused.allow) c.in-Refused.head it.1 it.2 c.in-Memory-refuse.ensures.bytes

pub returns-in-End-clause-serves : goal.returns-in-End-clause-serves
returns-in-End-clause-serves g c = serves_end _ _ _ _ _ _ _ _ _ _ c.in-End.ensures.bytes

pub returns-in-Cut-clause-serves : goal.returns-in-Cut-clause-serves
returns-in-Cut-clause-serves g c = serves_cut _ _ _ _ _ _ _ _ _ _ c.in-Cut.ensures.bytes

pub returns-in-Memory-clause-serves : goal.returns-in-Memory-clause-serves
returns-in-Memory-clause-serves g c = serves_nothing _ _ _ _ _ _ _ _ _
