use Rattle.std.proofs.Common.{◌≡◌, ◌+◌, length, None, IfSome}
use Rattle.change_history.specs.History.{opening_value}
use Rattle.std.specs.Option.{option_map_or}
use Rattle.change_history.specs.Span.{end_of}
use Rattle.jql_meaning.specs.Surroundings.{surroundings_of}
use Rattle.jql_meaning.specs.Past.{was, span_answers}
use Rattle.jql_past.specs.Interval.{IsOfWindows}
use Rattle.jql_past.proofs.Walks.{up_to, StandsAt, some_span}
use Rattle.jql_past.proofs.spans.was.Given as goal

abbrev pub invariant-loop-place : goal.invariant-loop-place
invariant-loop-place l = record {
  known : IfSome l.known (IsOfWindows (surroundings_of l.context) l.at l.predicates);
  stands : StandsAt l.issue.history.entries l.field l.place;
  same : was (surroundings_of l.context) l.issue.history l.at l.field l.operands l.predicates ≡ some_span (span_answers (surroundings_of l.context) l.at l.operands l.predicates) l.issue.history l.field (length (up_to l.issue.history.entries l.field l.place));
  opened : l.place ≡ None → IfSome l.before (λ v. v.now ≡ opening_value l.issue.history.opening l.field);
  end_is : l.end ≡ end_of l.issue.history l.field (length (up_to l.issue.history.entries l.field l.place));
}

abbrev pub decreases-loop-place : goal.decreases-loop-place
decreases-loop-place l = option_map_or (λ k. k + 1) l.place 0
