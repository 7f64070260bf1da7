use Rattle.std.proofs.Common.{arith}
use Rattle.desk_turn.proofs.Moves.{settles}
use Rattle.desk_turn.proofs.turn.Turn.settle.Goals as goal

pub load-requires : goal.load-requires
load-requires g c = (c.requires.table, omega (arith, c.args.self.now.sized.0), settles g.V.Kept.history g.V.Kept.origin c.args.self.now.table.shared.key.most (g.V.Kept.origin c.args.self.now.table.shared.key.value.value) c.args.self.now.table.shared.table_id.slots c.args.seat.now.id c.args.seat.now.me c.requires.live)
