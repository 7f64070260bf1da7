use Rattle.std.proofs.Common.{◌≡◌, ◌++◌, drop}
use Rattle.change_history.specs.History.{histories_of}
use Rattle.tracker_work.specs.Told.{groups_of}
use Rattle.tracker_work.proofs.told.groups_of.Given as goal

abbrev pub invariant-loop-issue : goal.invariant-loop-issue
invariant-loop-issue l = l.groups.items ++ groups_of l.done (histories_of (drop l.issue-index l.issues)) ≡ groups_of l.done (histories_of l.issues)
