use Rattle.std.proofs.Common.{◌≡◌, map, take}
use Rattle.told_setups.specs.Told.{told_status}
use Rattle.told_setups.proofs.statuses_told.told_statuses.Given as goal

abbrev pub invariant-loop-status : goal.invariant-loop-status
invariant-loop-status l = l.told ≡ map told_status (take l.status-index l.statuses)
