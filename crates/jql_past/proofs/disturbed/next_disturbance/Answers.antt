use Rattle.std.proofs.Common.{subst}
use Rattle.std.proofs.lemmas.List.{take_all}
use Rattle.jql_meaning.specs.Surroundings.{surroundings_of}
use Rattle.jql_meaning.specs.Edges.{window_edges}
use Rattle.jql_past.specs.Next.{IsNext, ToOne}
use Rattle.jql_past.specs.Near.{IsDisturbed}
use Rattle.jql_past.proofs.Nexts.{next_of_more}
use Rattle.jql_past.proofs.disturbed.next_disturbance.Goals as goal

pub loop-predicate-preserved : goal.loop-predicate-preserved
loop-predicate-preserved c =
    next_of_more (λ predicate. ToOne (IsDisturbed (surroundings_of c.args.context.now) c.args.predicates.now c.args.at) (window_edges predicate))
    c.args.predicates.now c.args.at c.loop-predicate.predicate-index c.predicate-item.result c.loop-predicate.first c.disturbs_window.result c.earlier-first.result
    c.loop-predicate-test.true c.predicate-item.is c.earlier-first.ensures c.loop-predicate.invariant c.disturbs_window.ensures

pub returns : goal.returns
returns c =
    subst (λ l. IsNext (ToOne (λ predicate. ToOne (IsDisturbed (surroundings_of c.args.context.now) c.args.predicates.now c.args.at) (window_edges predicate)) l) c.args.at c.loop-predicate.first)
    (take_all c.loop-predicate.predicate-index c.args.predicates.now c.loop-predicate-test.false) c.loop-predicate.invariant
