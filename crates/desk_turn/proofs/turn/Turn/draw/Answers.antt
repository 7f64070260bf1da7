use Rattle.std.proofs.Common.{arith}
use Rattle.desk_turn.proofs.Moves.{draws}
use Rattle.desk_turn.proofs.turn.Turn.draw.Goals as goal

pub fetch_add-requires : goal.fetch_add-requires
fetch_add-requires g c = (c.requires.table, omega (arith, c.args.self.now.sized.0), draws g.V.Kept.history g.V.Kept.origin c.args.self.now.table.shared.key.most (g.V.Kept.origin c.args.self.now.table.shared.key.value.value) c.args.self.now.table.shared.table_id.slots c.args.seat.now.id c.args.seat.now.me c.requires.rests.0 c.requires.rests.1)
