use Rattle.std.proofs.Common.{◌≡◌, take}
use Rattle.tracker_keeper.specs.Bodies.{user_names}
use Rattle.row_amend.proofs.kept_members.user_names.Given as goal

abbrev pub invariant-loop-member : goal.invariant-loop-member
invariant-loop-member l = l.names.items ≡ user_names l.users (take l.member-index l.members)
