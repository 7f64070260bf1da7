use Rattle.tracker_machine.proofs.Tracker.{tracker_applied}
use Rattle.tracker_machine.proofs.laws.effects_keep_trackers.Goals as goal

pub returns : goal.returns
returns c = tracker_applied
