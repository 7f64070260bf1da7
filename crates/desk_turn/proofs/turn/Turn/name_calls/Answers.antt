use Rattle.std.proofs.Common.{arith}
use Rattle.desk_turn.proofs.Moves.{names}
use Rattle.desk_turn.proofs.turn.Turn.name_calls.Goals as goal

pub store-requires : goal.store-requires
store-requires g c = (c.requires.table, omega (arith, c.args.self.now.sized.0), names g.V.Kept.history g.V.Kept.origin c.args.self.now.table.shared.key.most (g.V.Kept.origin c.args.self.now.table.shared.key.value.value) c.args.self.now.table.shared.table_id.slots c.args.seat.now.id c.args.part c.args.seat.now.me)
