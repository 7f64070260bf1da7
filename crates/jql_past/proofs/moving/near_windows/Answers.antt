use Rattle.std.proofs.Common.{subst, to_z, of_z, FitsSigned, w64}
use Rattle.std.proofs.lemmas.Int.{to_z-of_z}
use Rattle.std.proofs.lemmas.List.{take_all}
use Rattle.jql_meaning.specs.Edges.{window_edges}
use Rattle.jql_past.specs.Next.{IsNext, ToOne}
use Rattle.jql_past.specs.Near.{ahead, IsNear}
use Rattle.jql_past.proofs.Nexts.{next_of_more}
use Rattle.jql_past.proofs.moving.near_windows.Goals as goal

pub loop-predicate-preserved : goal.loop-predicate-preserved
loop-predicate-preserved c =
    next_of_more (λ predicate. ToOne (λ edge. IsNear (to_z w64 (of_z w64 c.args.second)) (to_z w64 (of_z w64 c.args.reach)) (ahead edge)) (window_edges predicate))
    c.args.predicates.now c.args.at c.loop-predicate.predicate-index c.predicate-item.result c.loop-predicate.first c.near_window.result c.earlier-first.result
    c.loop-predicate-test.true c.predicate-item.is c.earlier-first.ensures c.loop-predicate.invariant c.near_window.ensures

pub returns : goal.returns
returns c =
    let second : FitsSigned w64 c.args.second = c.ranges.second in
    let reach : FitsSigned w64 c.args.reach = c.ranges.reach in
    let all = simp to_z-of_z at c.loop-predicate.invariant in
    subst (λ l. IsNext (ToOne (λ predicate. ToOne (λ edge. IsNear c.args.second c.args.reach (ahead edge)) (window_edges predicate)) l) c.args.at c.loop-predicate.first)
    (take_all c.loop-predicate.predicate-index c.args.predicates.now c.loop-predicate-test.false) all
