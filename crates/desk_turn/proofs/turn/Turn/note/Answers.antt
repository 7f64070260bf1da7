use Rattle.std.proofs.Common.{arith}
use Rattle.desk_turn.proofs.Ends.{notes}
use Rattle.desk_turn.proofs.turn.Turn.note.Goals as goal

pub split_seat-requires : goal.split_seat-requires
split_seat-requires g c = (c.requires.table, omega (arith, c.args.self.now.sized.0), notes g.V.Kept.history g.V.Kept.origin c.args.self.now.table.shared.key.most (g.V.Kept.origin c.args.self.now.table.shared.key.value.value) c.args.seat.now.id c.args.seat.now.me.0)
