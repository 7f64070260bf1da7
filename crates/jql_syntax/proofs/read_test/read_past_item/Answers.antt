use Rattle.std.proofs.lemmas.Result.{err_from_is_err_and}
use Rattle.jql_syntax.proofs.Reading.{goes_both, stop_latter, stop_former}
use Rattle.jql_syntax.proofs.read_test.read_past_item.Goals as goal

pub returns-in_err-item-clause-err : goal.returns-in_err-item-clause-err
returns-in_err-item-clause-err c = let p = err_from_is_err_and c.from_residual.result c.from_residual.ensures.1 in
    rw (p.1, p.2) (stop_former c.in_err-item.ensures.err)

pub returns-in_err-predicates-clause-err : goal.returns-in_err-predicates-clause-err
returns-in_err-predicates-clause-err c = let p = err_from_is_err_and c.from_residual-in_err-predicates.result c.from_residual-in_err-predicates.ensures.1 in
    rw (p.1, p.2) (stop_latter c.in_ok-item.ensures.ok c.in_err-predicates.ensures.err)

pub returns-clause-ok : goal.returns-clause-ok
returns-clause-ok c = goes_both c.in_ok-item.ensures.ok c.in_ok-predicates.ensures.ok
