use Rattle.std.proofs.Common.{◌≡◌, ◌+◌}
use Rattle.jql_meaning.specs.Surroundings.{surroundings_of}
use Rattle.change_history.specs.History.{histories_of}
use Rattle.tracker_filters.proofs.Regrouping.{SettledCells}
use Rattle.tracker_filters.proofs.members.settle_row.Given as goal

-- the issues before this one are settled
abbrev pub invariant-loop-issue : goal.invariant-loop-issue
invariant-loop-issue g l = record {
  count : l.no ≡ l.issue-index;
  settled : SettledCells (surroundings_of l.context) l.at l.filter (histories_of l.issues) l.issue-index l.fn.views l.views;
  steps : l.steps ≡ l.fn.steps + l.issue-index;
}
