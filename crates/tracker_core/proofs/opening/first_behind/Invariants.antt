use Rattle.std.proofs.Common.{◌≤◌}
use Rattle.tracker_core.proofs.Order.{AreInOrder}
use Rattle.tracker_core.proofs.opening.first_behind.Given as goal

abbrev pub invariant-loop-at : goal.invariant-loop-at
invariant-loop-at l = record {
  some : 1 ≤ l.at;
  ordered : AreInOrder l.fn.rows l.at;
}
