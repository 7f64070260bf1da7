use Rattle.std.proofs.Common.{◌≡◌, map, take}
use Rattle.told_setups.proofs.fields_told.status_names.Given as goal

abbrev pub invariant-loop-status : goal.invariant-loop-status
invariant-loop-status l = l.told ≡ map (λ s. s.name) (take l.status-index l.statuses)
