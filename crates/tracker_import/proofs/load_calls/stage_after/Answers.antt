use Rattle.tracker_import.proofs.Stages.{ticked, ticked_later}
use Rattle.tracker_import.proofs.load_calls.stage_after.Goals as goal

pub returns-in-Tick-clause-left : goal.returns-in-Tick-clause-left
returns-in-Tick-clause-left c =
    let within = rw c.in-Tick.is at c.requires.within in
    rw c.in-Tick.is (ticked _ _ within)

pub returns-in-LaterTick-clause-left : goal.returns-in-LaterTick-clause-left
returns-in-LaterTick-clause-left c =
    let within = rw c.in-LaterTick.is at c.requires.within in
    rw c.in-LaterTick.is (ticked_later _ _ within)
