use Rattle.std.proofs.Common.{◌≡◌, ◌∷◌, take}
use Rattle.tracker_state.specs.Rows.{present_op}
use Rattle.rank_calls.specs.Rows.{rank_ops}
use Rattle.rank_calls.proofs.rows.step_ops.Given as goal

abbrev pub invariant-loop-pair : goal.invariant-loop-pair
invariant-loop-pair l = l.ops.items ≡ present_op l.fn.balance l.fn.change l.fn.moment ∷ rank_ops (take l.pair-index l.moves)
