use Rattle.std.proofs.Common.{refl}
use Rattle.std.proofs.lemmas.Result.{err_from_is_err_and}
use Rattle.jql_syntax.specs.Node.{compares}
use Rattle.jql_syntax.proofs.Reading.{stuck, goes_rule, goes_both, stop_latter, stop_rule, off}
use Rattle.jql_syntax.proofs.read_test.read_compared.Goals as goal

pub returns-in_default-clause-err : goal.returns-in_default-clause-err
returns-in_default-clause-err c = rw c.fault.ensures (stuck c.args.ts.now refl (off c.in_default.ensures.none))

pub returns-in_err-value-clause-err : goal.returns-in_err-value-clause-err
returns-in_err-value-clause-err c = let p = err_from_is_err_and c.from_residual.result c.from_residual.ensures.1 in
    rw (p.1, p.2) (stop_rule (stop_latter c.in-Some.ensures.some c.in_err-value.ensures.err))

pub returns-clause-ok : goal.returns-clause-ok
returns-clause-ok c = goes_rule (compares c.args.comparison) (goes_both c.in-Some.ensures.some c.in_ok-value.ensures.ok)
