use Rattle.std.proofs.Common.{◌≡◌, ◌++◌, drop}
use Rattle.setup_reading.specs.Resolving.{members_in}
use Rattle.row_amend.proofs.kept_members.members_in.Given as goal

abbrev pub invariant-loop-place : goal.invariant-loop-place
invariant-loop-place l = members_in 0 l.users l.names ≡ l.members ++ members_in l.place (drop l.place l.users) l.names
