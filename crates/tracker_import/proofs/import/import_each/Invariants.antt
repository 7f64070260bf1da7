use Rattle.std.proofs.Common.{◌≡◌, ◌≤◌, Some}
use Rattle.issue_csv.specs.Reading.{Batch}
use Rattle.tracker_import.proofs.CallByCall.{HasComeTo, calls_left}
use Rattle.tracker_import.proofs.import.import_each.Given as goal

abbrev pub invariant-calls : goal.invariant-calls
invariant-calls g l = record {
  so_far : (batch : Batch) → l.fn.reader ≡ Some batch
      → HasComeTo g.P.Keeper.keeps g.P.Keeper.tells g.P.Keeper.faults l.caller l.fn.desk batch (g.T.Sink.taken l.fn.out) (g.T.Sink.taken l.out) l.reader l.desk;
  write_later : g.T.Sink.faults l.fn.out ≤ g.T.Sink.faults l.out;
}

abbrev pub decreases-calls : goal.decreases-calls
decreases-calls g l = calls_left l.reader
