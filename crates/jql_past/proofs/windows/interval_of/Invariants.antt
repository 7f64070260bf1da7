use Rattle.std.proofs.Common.{◌≡◌, drop}
use Rattle.jql_meaning.specs.Surroundings.{surroundings_of}
use Rattle.jql_past.specs.Interval.{all_moments, interval_of}
use Rattle.jql_past.proofs.windows.interval_of.Given as goal

abbrev pub invariant-loop-predicate : goal.invariant-loop-predicate
invariant-loop-predicate l =
    interval_of (surroundings_of l.context) l.at all_moments l.predicates ≡ interval_of (surroundings_of l.context) l.at l.interval (drop l.predicate-index l.predicates)
