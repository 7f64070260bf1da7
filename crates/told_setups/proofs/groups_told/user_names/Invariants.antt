use Rattle.std.proofs.Common.{◌≡◌, take}
use Rattle.told_setups.specs.Told.{user_names}
use Rattle.told_setups.proofs.groups_told.user_names.Given as goal

abbrev pub invariant-loop-user : goal.invariant-loop-user
invariant-loop-user l = l.told ≡ user_names l.setup.users (take l.user-index l.users)
