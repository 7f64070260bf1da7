use Rattle.std.proofs.Common.{◌≤◌, length, drop}
use Rattle.change_history.specs.Small.{AreSmall}
use Rattle.change_history.specs.History.{opening_value}
use Rattle.change_history.proofs.small.opening_small.Given as goal

abbrev pub invariant-loop-left : goal.invariant-loop-left
invariant-loop-left l = record {
  within : l.left ≤ length l.opening;
  are : AreSmall (opening_value (drop l.left l.opening)) l.small;
}

abbrev pub decreases-loop-left : goal.decreases-loop-left
decreases-loop-left l = l.left
