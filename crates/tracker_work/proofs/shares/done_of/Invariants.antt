use Rattle.std.proofs.Common.{◌≡◌, take}
use Rattle.tracker_work.specs.Seen.{done_of}
use Rattle.tracker_work.proofs.shares.done_of.Given as goal

abbrev pub invariant-loop-status : goal.invariant-loop-status
invariant-loop-status l = l.done.items ≡ done_of (take l.status-index l.statuses)
