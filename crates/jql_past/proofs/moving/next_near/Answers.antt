use Rattle.std.proofs.Common.{pos, Some, FitsSigned, w64}
use Rattle.std.proofs.lemmas.Int.{to_z-of_z}
use Rattle.jql_meaning.specs.Edges.{window_edges}
use Rattle.jql_past.specs.Next.{ToOne}
use Rattle.jql_past.specs.Near.{ahead, IsNear}
use Rattle.jql_past.proofs.Nexts.{next_of_both}
use Rattle.jql_past.proofs.moving.next_near.Goals as goal

pub returns : goal.returns
returns c =
    let second : FitsSigned w64 c.args.second = c.ranges.second in
    let reach : FitsSigned w64 c.args.reach = c.ranges.reach in
    let one = simp to_z-of_z at c.near.ensures in
    let other = simp to_z-of_z at c.near_windows.ensures in
    rw c.earlier.ensures
    (next_of_both (IsNear c.args.second c.args.reach (Some (pos 0))) (ToOne (λ predicate. ToOne (λ edge. IsNear c.args.second c.args.reach (ahead edge)) (window_edges predicate)) c.args.predicates.now)
    c.args.at c.near.result c.near_windows.result one other)
