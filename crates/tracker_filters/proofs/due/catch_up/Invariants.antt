use Rattle.std.proofs.Common.{◌≡◌, ◌+◌}
use Rattle.jql_meaning.specs.Surroundings.{surroundings_of}
use Rattle.filter_views.specs.Views.{shape}
use Rattle.filter_views.specs.Counts.{due}
use Rattle.change_history.specs.History.{histories_of}
use Rattle.tracker_filters.specs.Cells.{ArePending}
use Rattle.tracker_filters.proofs.due.catch_up.Given as goal

-- what isn't due is right, and each step has made one cell less due
abbrev pub invariant-loop-cell : goal.invariant-loop-cell
invariant-loop-cell g l = record {
  pending : ArePending (surroundings_of l.context) l.to (histories_of l.issues) l.filters l.views;
  same : shape l.views ≡ shape l.fn.views;
  steps : l.steps + due l.views l.to ≡ l.fn.steps + due l.fn.views l.to;
}

abbrev pub decreases-loop-cell : goal.decreases-loop-cell
decreases-loop-cell g l = due l.views l.to
