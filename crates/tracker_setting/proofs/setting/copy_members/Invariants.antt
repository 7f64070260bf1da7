use Rattle.std.proofs.Common.{◌≡◌, take}
use Rattle.tracker_setting.proofs.setting.copy_members.Given as goal

abbrev pub invariant-loop-user : goal.invariant-loop-user
invariant-loop-user l = l.copy ≡ take l.user-index l.users
