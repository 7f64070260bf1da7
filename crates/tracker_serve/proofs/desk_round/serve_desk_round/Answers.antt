use denote.Param.Send.{sendable}
use Rattle.std.proofs.Crossing.{crosses}
use Rattle.tracker_serve.proofs.OneRound.{round_made}
use Rattle.tracker_serve.proofs.Sent.{desk_send}
use Rattle.tracker_serve.proofs.desk_round.serve_desk_round.Goals as goal

pub returns-clause-round : goal.returns-clause-round
returns-clause-round g c =
    let round = c.serve_round.ensures in
    round_made g.P.Keeper.keeps g.P.Keeper.tells g.P.Keeper.faults g.P.Keeper.leaves _ _ c.serve_round.result.receipts _ _ _ round.served round.accounted round.numbers
    round.connections round.unbegun round.looked

pub serve_round-requires-send-M : goal.serve_round-requires-send-M
serve_round-requires-send-M g c κs within =
    let keeper = c.type_bounds.send-P in search (desk_send, sendable, crosses) depth 40 fits 20000
