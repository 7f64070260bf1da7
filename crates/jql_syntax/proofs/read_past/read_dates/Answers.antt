use Rattle.std.proofs.Common.{refl}
use Rattle.std.proofs.lemmas.Result.{err_from_is_err_and}
use Rattle.jql_syntax.proofs.Reading.{stuck, goes_both, stop_latter, stop_former, off}
use Rattle.jql_syntax.proofs.read_past.read_dates.Goals as goal

pub returns-in_default-clause-err : goal.returns-in_default-clause-err
returns-in_default-clause-err c = rw c.fault.ensures (stuck c.args.ts.now refl (off c.in_default.ensures.none))

pub returns-in_err-start-clause-err : goal.returns-in_err-start-clause-err
returns-in_err-start-clause-err c = let p = err_from_is_err_and c.from_residual.result c.from_residual.ensures.1 in
    rw (p.1, p.2) (stop_latter c.in-Some.ensures.some (stop_former c.in_err-start.ensures.err))

pub returns-in-Ok-clause-ok : goal.returns-in-Ok-clause-ok
returns-in-Ok-clause-ok c = goes_both c.in-Some.ensures.some (goes_both c.in_ok-start.ensures.ok c.in-Ok.ensures.ok)

pub returns-in-Err-clause-err : goal.returns-in-Err-clause-err
returns-in-Err-clause-err c = stop_latter c.in-Some.ensures.some (stop_latter c.in_ok-start.ensures.ok c.in-Err.ensures.err)
