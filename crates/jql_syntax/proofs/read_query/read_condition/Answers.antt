use Rattle.std.proofs.Common.{sym}
use Rattle.std.proofs.lemmas.Result.{err_from_is_err_and}
use Rattle.jql_syntax.specs.Grammar.{limit, expression}
use Rattle.jql_syntax.proofs.Reading.{goes_first, goes_second, goes_nothing, stop_first, off, on}
use Rattle.jql_syntax.proofs.read_query.read_condition.Goals as goal

pub returns-in_err-expr-clause-err : goal.returns-in_err-expr-clause-err
returns-in_err-expr-clause-err c = let p = err_from_is_err_and c.from_residual.result c.from_residual.ensures.1 in
    rw (p.1, p.2) (stop_first (on (on (sym c.if-starts_unit.ensures))) c.in_err-expr.ensures.err)

pub returns-then-starts_unit-clause-ok : goal.returns-then-starts_unit-clause-ok
returns-then-starts_unit-clause-ok c = rw c.in_ok-expr-2.ensures.ok (goes_first _ (on (on (sym c.if-starts_unit.ensures))) c.in_ok-expr.ensures.ok)

pub returns-clause-ok : goal.returns-clause-ok
returns-clause-ok c = goes_second (expression limit) (off (off (sym c.if-starts_unit.ensures))) (goes_nothing c.args.ts.now)
