use Rattle.jql_bound.specs.Condition.{view}
use Rattle.jql_grammar.specs.Scope.{scope_of}
use Rattle.jql_grammar.proofs.Denying.{leaf_stopped, leaf_bound}
use Rattle.jql_grammar.proofs.conditions.bind_leaf.Goals as goal

pub returns-in-Err-clause-err : goal.returns-in-Err-clause-err
returns-in-Err-clause-err c =
    leaf_stopped (scope_of c.args.binder.now) c.args.place c.args.denied c.args.leaf.now c.in-Err.stop c.fault_at.result c.in-Err.ensures.err c.fault_at.ensures

pub returns-in-Ok-clause-ok : goal.returns-in-Ok-clause-ok
returns-in-Ok-clause-ok c = leaf_bound (scope_of c.args.binder.now) c.args.place c.args.denied c.args.leaf.now (view c.in-Ok.cond) c.in-Ok.ensures.ok
