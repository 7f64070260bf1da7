use Rattle.std.proofs.Common.{take}
use Rattle.jql_meaning.specs.Surroundings.{surroundings_of}
use Rattle.jql_meaning.specs.Edges.{window_edges}
use Rattle.jql_past.specs.Next.{IsNext, ToOne}
use Rattle.jql_past.specs.Near.{IsDisturbed}
use Rattle.jql_past.proofs.disturbed.next_disturbance.Given as goal

abbrev pub invariant-loop-predicate : goal.invariant-loop-predicate
invariant-loop-predicate l = IsNext (ToOne (λ predicate. ToOne (IsDisturbed (surroundings_of l.context) l.predicates l.at) (window_edges predicate)) (take l.predicate-index l.predicates)) l.at l.first
