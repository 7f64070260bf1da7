use Rattle.std.proofs.Common.{sym, arith}
use Rattle.tracker_loading.specs.Reading.{gathered_in}
use Rattle.tracker_loading.proofs.Faults.{missing_last, all_read}
use Rattle.tracker_loading.proofs.walk.add_rows.Goals as goal

pub returns-in-Some-clause-fault : goal.returns-in-Some-clause-fault
returns-in-Some-clause-fault c =
    missing_last c.args.rows.now c.loop-place.place (gathered_in c.loop-place.read) c.in-Some.kind c.in-Some.no c.loop-place.invariant (omega arith) (sym c.in-Some.ensures)

pub returns-in-None-clause-loads : goal.returns-in-None-clause-loads
returns-in-None-clause-loads c =
    let read = c.loop-place.read in
    all_read c.args.rows.now c.loop-place.place read.format read.told read.made c.loop-place.invariant (omega arith) (sym c.in-None.ensures)
