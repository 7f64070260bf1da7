use Rattle.std.proofs.Common.{◌≡◌, map, take}
use Rattle.told_setups.specs.Told.{told_group}
use Rattle.told_setups.proofs.groups_told.each_group.Given as goal

abbrev pub invariant-loop-group : goal.invariant-loop-group
invariant-loop-group l = l.told ≡ map (told_group l.setup.users) (take l.group-index l.groups)
