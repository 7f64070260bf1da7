-- The operations that keep the ranks of a step.
use Rattle.std.specs.Prelude.{List, map}
use Rattle.rank_balancer.specs.Step.{Move}
use Rattle.tracker_keeper.specs.declared.row.RowOp.{RowOp}
use Rattle.tracker_state.specs.Rows.{rank_op}

-- those of the ranks that moves give
abbrev pub rank_ops : List Move → List RowOp
rank_ops moves = map (λ move. rank_op move.0 move.1) moves
