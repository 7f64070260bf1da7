use Rattle.std.proofs.Common.{◌≡◌, ◌∷◌, ◌++◌, drop}
use Rattle.tracker_keeper.specs.declared.row.RowOp.TheVariants.{Drop}
use Rattle.tracker_machine.specs.Kept.{board_drops}
use Rattle.list_calls.proofs.rows.drop_filter_ops.Given as goal

abbrev pub invariant-loop-board : goal.invariant-loop-board
invariant-loop-board l = Drop 8 l.no.0 ∷ board_drops l.no l.boards ≡ l.ops.items ++ board_drops l.no (drop l.board-index l.boards)
