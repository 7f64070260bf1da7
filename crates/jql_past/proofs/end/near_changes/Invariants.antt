use Rattle.std.proofs.Common.{◌+◌}
use Rattle.std.specs.Option.{option_map_or}
use Rattle.change_history.specs.Span.{entries_of}
use Rattle.jql_past.specs.Near.{IsNearChange}
use Rattle.jql_past.proofs.Walks.{up_to, StandsAt}
use Rattle.jql_past.proofs.Nexts.{HasPassed}
use Rattle.jql_past.proofs.end.near_changes.Given as goal

abbrev pub invariant-loop-place : goal.invariant-loop-place
invariant-loop-place l = record {
  stands : StandsAt l.issue.history.entries l.fn.field l.place;
  passed : HasPassed (IsNearChange l.predicates) (entries_of l.issue.history.entries l.fn.field) (up_to l.issue.history.entries l.fn.field l.place) l.at l.first;
}

abbrev pub decreases-loop-place : goal.decreases-loop-place
decreases-loop-place l = option_map_or (λ k. k + 1) l.place 0
