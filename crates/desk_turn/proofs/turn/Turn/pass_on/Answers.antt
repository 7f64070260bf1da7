use Rattle.std.proofs.Common.{arith}
use Rattle.desk_turn.proofs.Moves.{leaves}
use Rattle.desk_turn.proofs.turn.Turn.pass_on.Goals as goal

pub fetch_add-turn-requires : goal.fetch_add-turn-requires
fetch_add-turn-requires g c = let it = c.requires.whole in
    (c.requires.table, omega (arith, c.args.self.now.sized.0), leaves g.V.Kept.history g.V.Kept.origin c.args.self.now.table.shared.key.most (g.V.Kept.origin c.args.self.now.table.shared.key.value.value) c.args.self.now.table.shared.table_id.slots c.args.seat.now.id c.args.seat.now.me it.0 it.1 it.2)
