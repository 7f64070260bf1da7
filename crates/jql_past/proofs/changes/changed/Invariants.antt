use Rattle.std.proofs.Common.{◌≡◌, ◌+◌, IfSome}
use Rattle.std.specs.Option.{option_map_or}
use Rattle.std.specs.List.{list_any}
use Rattle.jql_meaning.specs.Surroundings.{surroundings_of}
use Rattle.jql_meaning.specs.Past.{changed, entry_answers}
use Rattle.jql_past.specs.Interval.{IsOfWindows}
use Rattle.jql_past.proofs.Walks.{up_to, StandsAt}
use Rattle.jql_past.proofs.changes.changed.Given as goal

abbrev pub invariant-loop-place : goal.invariant-loop-place
invariant-loop-place l = record {
  known : IfSome l.known (IsOfWindows (surroundings_of l.context) l.at l.predicates);
  stands : StandsAt l.issue.history.entries l.fn.field l.place;
  same : changed (surroundings_of l.context) l.issue.history l.at l.fn.field l.endpoints l.predicates ≡ list_any (λ entry. entry_answers (surroundings_of l.context) l.at l.endpoints l.predicates entry) (up_to l.issue.history.entries l.fn.field l.place);
}

abbrev pub decreases-loop-place : goal.decreases-loop-place
decreases-loop-place l = option_map_or (λ k. k + 1) l.place 0
