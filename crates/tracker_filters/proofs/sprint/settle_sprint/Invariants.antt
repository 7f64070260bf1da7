use Rattle.std.proofs.Common.{◌≡◌, ◌+◌, length, take}
use Rattle.jql_meaning.specs.Surroundings.{surroundings_of}
use Rattle.change_history.specs.History.{histories_of}
use Rattle.tracker_filters.specs.Sprint.{sprint_cost}
use Rattle.tracker_filters.proofs.Sprinting.{SettledFirst}
use Rattle.tracker_filters.proofs.sprint.settle_sprint.Given as goal

-- the issues before this one are settled, as far as they are in the sprint
abbrev pub invariant-loop-issue : goal.invariant-loop-issue
invariant-loop-issue g l = record {
  settled : SettledFirst (surroundings_of l.context) l.at l.filters (histories_of l.issues) l.sprint.0 l.issue-index l.fn.views l.views;
  steps : l.steps ≡ l.fn.steps + sprint_cost (length l.filters) l.sprint.0 (take l.issue-index (histories_of l.issues));
}
