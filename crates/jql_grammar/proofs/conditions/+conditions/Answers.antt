use Rattle.std.proofs.Common.{◌≡◌, ◌+◌, drop, arith, ap, sym, Ok}
use Rattle.std.proofs.lemmas.Result.{err_from_is_err_and}
use Rattle.jql_syntax.specs.View.{view as tree, views as trees}
use Rattle.jql_syntax.proofs.Views.{view-Not, view-All, view-Any}
use Rattle.jql_grammar.specs.Scope.{scope_of}
use Rattle.jql_grammar.specs.Conditions.{tests, tests_in}
use Rattle.jql_grammar.proofs.Denying.{not_is_asked, all_asked, any_asked}
use Rattle.jql_grammar.proofs.Joining.{goes_on, ends, stops, rest_in, tests_turn}
use Rattle.jql_grammar.proofs.conditions.+conditions.Goals as goal

pub bind_exprs-loop-expr-preserved : goal.bind_exprs-loop-expr-preserved
bind_exprs-loop-expr-preserved t c =
    let turn : tests_in (trees (drop c.loop-expr.expr-index c.args.exprs.now)) ≡ tests (tree c.expr-item.result) + tests_in (trees (drop (c.loop-expr.expr-index + 1) c.args.exprs.now)) = tests_turn c.args.exprs.now c.loop-expr.expr-index c.expr-item.result (omega arith) c.expr-item.is in (
      rw c.in_ok-push.ensures.items (goes_on (scope_of c.args.binder.now) c.args.denied (rest_in (scope_of c.args.binder.now) c.args.denied c.args.place c.args.exprs.now) c.loop-expr.conds.items c.loop-expr.next c.args.exprs.now c.loop-expr.expr-index c.expr-item.result (omega arith) c.expr-item.is c.loop-expr.invariant.0 c.in_ok-cond.cond c.in_ok-cond.after c.in_ok-cond.ensures.ok c.in_ok-cond.ensures.next),
      omega (arith, turn, c.loop-expr.invariant.1, c.in_ok-cond.ensures.next),
    )

pub bind_exprs-returns-clause-ok : goal.bind_exprs-returns-clause-ok
bind_exprs-returns-clause-ok t c =
    ends (scope_of c.args.binder.now) c.args.denied (rest_in (scope_of c.args.binder.now) c.args.denied c.args.place c.args.exprs.now) c.loop-expr.conds.items c.loop-expr.next c.args.exprs.now c.loop-expr.expr-index (omega arith) c.loop-expr.invariant.0

pub bind_exprs-returns-in_err-cond-clause-err : goal.bind_exprs-returns-in_err-cond-clause-err
bind_exprs-returns-in_err-cond-clause-err t c =
    let p = err_from_is_err_and c.from_residual.result c.from_residual.ensures.1 in
    rw (p.1, p.2) (stops (scope_of c.args.binder.now) c.args.denied (rest_in (scope_of c.args.binder.now) c.args.denied c.args.place c.args.exprs.now) c.loop-expr.conds.items c.loop-expr.next c.args.exprs.now c.loop-expr.expr-index c.expr-item.result (omega arith) c.expr-item.is c.loop-expr.invariant.0 c.in_err-cond.field-0.0 c.in_err-cond.ensures.err)

pub bind_expr-returns-in-Not-clause-ok : goal.bind_expr-returns-in-Not-clause-ok
bind_expr-returns-in-Not-clause-ok t c =
    rw (c.in-Not.is, view-Not c.in-Not.inner, not_is_asked (scope_of c.args.binder.now) c.args.place c.args.denied (tree c.in-Not.inner.value)) (rw c.deref.ensures at c.bind_expr.ensures.ok)

pub bind_expr-returns-in_ok-conds-in-All-clause-ok : goal.bind_expr-returns-in_ok-conds-in-All-clause-ok
bind_expr-returns-in_ok-conds-in-All-clause-ok t c =
    rw (c.in-All.is, view-All c.in-All.exprs, all_asked (scope_of c.args.binder.now) c.args.place c.args.denied (trees c.in-All.exprs.items), rw c.as_slice.ensures.value at c.in_ok-conds-in-All.ensures.ok) (ap Ok (sym c.all_or_any.ensures))

pub bind_expr-returns-in_ok-conds-in-Any-clause-ok : goal.bind_expr-returns-in_ok-conds-in-Any-clause-ok
bind_expr-returns-in_ok-conds-in-Any-clause-ok t c =
    rw (c.in-Any.is, view-Any c.in-Any.exprs, any_asked (scope_of c.args.binder.now) c.args.place c.args.denied (trees c.in-Any.exprs.items), rw c.as_slice-in-Any.ensures.value at c.in_ok-conds-in-Any.ensures.ok) (ap Ok (sym c.all_or_any-in-Any.ensures))
