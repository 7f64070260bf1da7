use Rattle.std.proofs.Common.{◌≡◌, map, take}
use Rattle.fields.specs.SetupParts.{names}
use Rattle.told_setups.specs.Told.{status_name}
use Rattle.told_setups.proofs.transitions_told.status_names.Given as goal

abbrev pub invariant-loop-status : goal.invariant-loop-status
invariant-loop-status l = l.told ≡ map (status_name (names l.setup)) (take l.status-index l.statuses)
