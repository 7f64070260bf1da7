use Rattle.std.proofs.Common.{◌≡◌, take}
use Rattle.tracker_loading.proofs.Sprinting.{phases_in}
use Rattle.tracker_loading.proofs.phases.phases_of.Given as goal

abbrev pub invariant-loop-place : goal.invariant-loop-place
invariant-loop-place l = l.phases.items ≡ phases_in (take l.place l.sprints.sprints)
