use Rattle.std.proofs.Common.{◌+◌}
use Rattle.tracker_work.specs.States.{state_before, state_begun}
use Rattle.tracker_work.specs.Replay.{seen_in, HasSameSlots, IsChartedWithin}
use Rattle.tracker_work.proofs.replay.end_all.Given as goal

abbrev pub invariant-loop-place : goal.invariant-loop-place
invariant-loop-place l = record {
  charts : IsChartedWithin (seen_in l.origin) l.number l.burndown (state_begun l.number) (state_before (l.number + 1)) (l.place + 1);
  room : HasSameSlots l.fn.burndown l.burndown;
}
