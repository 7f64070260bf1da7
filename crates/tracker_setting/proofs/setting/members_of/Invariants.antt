use Rattle.std.proofs.Common.{◌≡◌, map, take}
use Rattle.tracker_setting.proofs.setting.members_of.Given as goal

abbrev pub invariant-loop-group : goal.invariant-loop-group
invariant-loop-group l = l.members.items ≡ map (λ g. g.members) (take l.group-index l.groups)
