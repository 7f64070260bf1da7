use Rattle.std.proofs.Common.{◌≡◌, map, take}
use Rattle.setup_reading.proofs.resolved.group_names.Given as goal

abbrev pub invariant-loop-group : goal.invariant-loop-group
invariant-loop-group l = l.names ≡ map (λ x. x.name) (take l.group-index l.groups)
