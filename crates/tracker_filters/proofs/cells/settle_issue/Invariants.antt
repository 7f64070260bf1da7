use Rattle.std.proofs.Common.{◌≡◌, ◌+◌}
use Rattle.jql_meaning.specs.Surroundings.{surroundings_of}
use Rattle.tracker_filters.proofs.Settling.{SettledFilters}
use Rattle.tracker_filters.proofs.cells.settle_issue.Given as goal

-- the filters before this one are settled
abbrev pub invariant-loop-filter : goal.invariant-loop-filter
invariant-loop-filter g l = record {
  settled : SettledFilters (surroundings_of l.context) l.at l.filters l.issue.history l.issue.history.no.0 l.filter-index l.fn.views l.views;
  steps : l.steps ≡ l.fn.steps + l.filter-index;
}
