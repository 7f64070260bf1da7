use Rattle.std.proofs.lemmas.Result.{err_from_is_err_and}
use Rattle.jql_syntax.specs.Node.{field_test}
use Rattle.jql_syntax.proofs.Reading.{goes_rule, goes_both, stop_latter, stop_former, stop_rule}
use Rattle.jql_syntax.proofs.read_test.read_leaf.Goals as goal

pub returns-in_err-field-clause-err : goal.returns-in_err-field-clause-err
returns-in_err-field-clause-err c = let p = err_from_is_err_and c.from_residual.result c.from_residual.ensures.1 in
    rw (p.1, p.2) (stop_rule (stop_former c.in_err-field.ensures.err))

pub returns-in_err-test-clause-err : goal.returns-in_err-test-clause-err
returns-in_err-test-clause-err c = let p = err_from_is_err_and c.from_residual-in_err-test.result c.from_residual-in_err-test.ensures.1 in
    rw (p.1, p.2) (stop_rule (stop_latter c.in_ok-field.ensures.ok c.in_err-test.ensures.err))

pub returns-clause-ok : goal.returns-clause-ok
returns-clause-ok c = goes_rule field_test (goes_both c.in_ok-field.ensures.ok c.in_ok-test.ensures.ok)
