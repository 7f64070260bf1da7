use Rattle.std.proofs.Common.{◌≡◌, ◌++◌, drop}
use Rattle.tracker_work.specs.Told.{groups_among}
use Rattle.tracker_work.proofs.told.push_changes.Given as goal

abbrev pub invariant-loop-at : goal.invariant-loop-at
invariant-loop-at l =
    l.groups.items ++ groups_among l.done l.issue l.before l.share (drop l.at l.entries) ≡ l.initial.groups.items ++ groups_among l.done l.issue l.fn.opening l.fn.opening l.entries
