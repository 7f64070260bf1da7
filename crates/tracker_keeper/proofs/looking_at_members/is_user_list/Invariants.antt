use Rattle.std.proofs.Common.{◌≡◌, drop}
use Rattle.field_values.specs.GroupMembers.{is_user_list}
use Rattle.tracker_keeper.proofs.looking_at_members.is_user_list.Given as goal

abbrev pub invariant-loop-place : goal.invariant-loop-place
invariant-loop-place l = is_user_list l.count l.users ≡ is_user_list l.count (drop l.place l.users)
