use Rattle.std.proofs.Common.{arith}
use Rattle.desk_turn.proofs.Ends.{joins}
use Rattle.desk_turn.proofs.turn.Turn.gather.Goals as goal

pub join_seat-requires : goal.join_seat-requires
join_seat-requires g c = let it = c.requires.first in let theirs = c.requires.other in (c.requires.table.0, c.requires.table.1, theirs.2, omega (arith, c.args.self.now.sized.0), joins g.V.Kept.history g.V.Kept.origin c.args.self.now.table.shared.key.most (g.V.Kept.origin c.args.self.now.table.shared.key.value.value) c.args.seat.now.id c.args.seat.now.me.0 c.args.other.id c.args.other.me.0 it.0 it.1 theirs.0 theirs.1)
