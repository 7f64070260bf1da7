use Rattle.std.proofs.Common.{◌≡◌, ◌+◌, drop}
use Rattle.jql_syntax.specs.View.{views as trees}
use Rattle.jql_grammar.specs.Scope.{scope_of}
use Rattle.jql_grammar.specs.Conditions.{tests_in}
use Rattle.jql_grammar.proofs.Joining.{before, rest_in}
use Rattle.jql_grammar.proofs.conditions.+conditions.Given as goal

abbrev pub invariant-bind_exprs-loop-expr : goal.invariant-bind_exprs-loop-expr
invariant-bind_exprs-loop-expr l =
    (rest_in (scope_of l.binder) l.denied l.place l.exprs ≡ before l.conds.items (rest_in (scope_of l.binder) l.denied l.next (drop l.expr-index l.exprs)))
    × (l.place + tests_in (trees l.exprs) ≡ l.next + tests_in (trees (drop l.expr-index l.exprs)))
