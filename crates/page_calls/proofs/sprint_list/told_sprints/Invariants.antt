use Rattle.std.proofs.Common.{◌≡◌, ◌-◌, ◌≤◌, take, drop}
use Rattle.tracker_machine.specs.Overviews.{sprints_from}
use Rattle.page_calls.proofs.sprint_list.told_sprints.Given as goal

abbrev pub invariant-loop-place : goal.invariant-loop-place
invariant-loop-place l =
    (l.told ≡ take (l.place - l.from) (drop l.from (sprints_from 1 l.state.machine.sprints)))
    × (l.from ≤ l.place) × (l.place - l.from ≤ l.end - l.from)
