use Rattle.std.proofs.Common.{◌≡◌, map, take}
use Rattle.setup_reading.proofs.name_lists.status_names.Given as goal

abbrev pub invariant-loop-status : goal.invariant-loop-status
invariant-loop-status l = l.names ≡ map (λ x. x.name) (take l.status-index l.statuses)
