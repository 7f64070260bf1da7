use Rattle.std.proofs.Common.{◌≤◌, ◌-◌}
use Rattle.burndown.specs.Told.{HaveNoneBetween}
use Rattle.tracker_work.specs.Replay.{seen_in, IsReplayed}
use Rattle.tracker_work.proofs.replay.Replay.pass.Given as goal

abbrev pub invariant-loop-next : goal.invariant-loop-next
invariant-loop-next l = record {
  replayed : IsReplayed (seen_in l.origin) l.self;
  later : l.self.reached ≤ l.to;
  none : HaveNoneBetween (seen_in l.origin).histories l.self.reached l.to;
}

abbrev pub decreases-loop-next : goal.decreases-loop-next
decreases-loop-next l = l.to - l.self.reached
