use Rattle.std.proofs.Common.{take}
use Rattle.jql_meaning.specs.Edges.{window_edges}
use Rattle.jql_past.specs.Next.{IsNext, ToOne}
use Rattle.jql_past.specs.Near.{ahead, IsNear}
use Rattle.jql_past.proofs.moving.near_windows.Given as goal

abbrev pub invariant-loop-predicate : goal.invariant-loop-predicate
invariant-loop-predicate l = IsNext (ToOne (λ predicate. ToOne (λ edge. IsNear l.second l.reach (ahead edge)) (window_edges predicate)) (take l.predicate-index l.predicates)) l.at l.first
