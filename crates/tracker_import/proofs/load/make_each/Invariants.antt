use Rattle.std.proofs.Common.{◌≤◌, length}
use Rattle.tracker_import.proofs.LoadMade.{HasComeTo}
use Rattle.tracker_import.proofs.load.make_each.Given as goal

abbrev pub invariant-each : goal.invariant-each
invariant-each g l = record {
  so_far : HasComeTo g.P.Keeper.keeps g.P.Keeper.tells g.P.Keeper.faults l.fn.desk l.fn.calls l.calls l.counts l.desk;
  fewer : l.counts.refused ≤ l.counts.calls;
}

abbrev pub decreases-each : goal.decreases-each
decreases-each g l = length l.calls
