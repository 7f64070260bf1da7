use Rattle.std.proofs.Common.{arith}
use Rattle.desk_turn.proofs.Ends.{splits}
use Rattle.desk_turn.proofs.turn.Turn.cut.Goals as goal

pub split_seat-requires : goal.split_seat-requires
split_seat-requires g c = let it = c.requires.first in let room = c.requires.room in (c.requires.table, omega (arith, c.args.self.now.sized.0), splits g.V.Kept.history g.V.Kept.origin c.args.self.now.table.shared.key.most (g.V.Kept.origin c.args.self.now.table.shared.key.value.value) c.args.seat.now.id c.args.seat.now.me.0 it.0 it.1 room.0 room.1)
