use Rattle.tracker_loading.specs.Reading.{IsReadTo, gathered_in}
use Rattle.tracker_loading.proofs.walk.add_rows.Given as goal

abbrev pub invariant-loop-place : goal.invariant-loop-place
invariant-loop-place l = IsReadTo l.rows l.place (gathered_in l.read)
